use Rattle.std.proofs.Common.{sym, ap}
use Rattle.serde_json.specs.View.{view}
use Rattle.swss_image.specs.Loaded.{in_json}
use Rattle.swss_image.proofs.Json.{json-none, json-some}
use Rattle.swss_image.proofs.Results.{if_ok-same}
use Rattle.swss_image.proofs.loaded.load.Goals as goal

pub returns-in-Ok-clause-value : goal.returns-in-Ok-clause-value
returns-in-Ok-clause-value c = if_ok-same c.load_value.result (sym (ap in_json (json-some c.args.bytes.now (view c.in-Ok.value) c.in-Ok.ensures.ok.0 c.in-Ok.ensures.ok.1))) c.load_value.ensures.value

pub returns-in-Err-2-clause-value : goal.returns-in-Err-2-clause-value
returns-in-Err-2-clause-value c = sym (ap in_json (json-none c.args.bytes.now (λ utf8. c.in-Err.ensures.err (λ memory. (let wrong = c.if-is_memory.ensures.1 memory in cc)) utf8)))
