use Rattle.std.proofs.Common.{◌∙◌, ◌+◌, ◌++◌, ap, rules}
use Rattle.swss_script.specs.Generated.{hop_address, hop_interface}
use Rattle.swss_script.proofs.Eaches.{texts-done, texts-first, texts-more, texts_left}
use Rattle.swss_script.proofs.made_rows.hop_texts.Goals as goal

pub loop-number-init : goal.loop-number-init
loop-number-init c = (
  ap (λ t. t ++ texts_left hop_address (c.args.first + 1) (c.args.first + 1 + c.args.others)) c.in_ok-addresses.ensures ∙ texts-first hop_address c.args.first c.args.others,
  ap (λ t. t ++ texts_left hop_interface (c.args.first + 1) (c.args.first + 1 + c.args.others)) c.in_ok-interfaces.ensures ∙ texts-first hop_interface c.args.first c.args.others,
)

pub loop-number-preserved : goal.loop-number-preserved
loop-number-preserved c = (
  texts-more hop_address c.loop-number.number (c.args.first + 1 + c.args.others) _ _ _ c.loop-number-test.true (search rules) c.loop-number.invariant.0,
  texts-more hop_interface c.loop-number.number (c.args.first + 1 + c.args.others) _ _ _ c.loop-number-test.true (search rules) c.loop-number.invariant.1,
)

pub returns-clause-addresses : goal.returns-clause-addresses
returns-clause-addresses c = texts-done hop_address c.loop-number.number (c.args.first + 1 + c.args.others) _ _ c.loop-number-test.false c.loop-number.invariant.0

pub returns-clause-interfaces : goal.returns-clause-interfaces
returns-clause-interfaces c = texts-done hop_interface c.loop-number.number (c.args.first + 1 + c.args.others) _ _ c.loop-number-test.false c.loop-number.invariant.1
