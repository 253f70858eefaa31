use Rattle.std.proofs.Common.{sym, ap, ◌∙◌}
use Rattle.serde_json.specs.Find.{as_array}
use Rattle.serde_json.specs.View.{items_view, view}
use Rattle.serde_json.proofs.Views.{view-Array}
use Rattle.swss_image.proofs.Results.{if_ok-same}
use Rattle.swss_script.proofs.Batches.{batch-none, batch-list}
use Rattle.swss_script.proofs.batch.read_batch.Goals as goal

pub returns-in-Err-2 : goal.returns-in-Err-2
returns-in-Err-2 c = sym (batch-none c.args.text.now (λ utf8. c.in-Err.ensures.err (λ memory. (let wrong = c.if-is_memory.ensures.1 memory in cc)) utf8))

pub returns-in-Array : goal.returns-in-Array
returns-in-Array c =
    let list = batch-list c.args.text.now _ (items_view c.in-Array.elements.items) c.in-Ok.ensures.ok.0 c.in-Ok.ensures.ok.1 (sym (ap (λ v. as_array (view v)) c.in-Array.is ∙ ap as_array (view-Array c.in-Array.elements))) in
    if_ok-same c.read_elements.result list c.read_elements.ensures
