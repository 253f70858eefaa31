use Rattle.std.proofs.Common.{◌≡◌, [], ◌∷◌, drop, rules, sym, ap, ◌∙◌}
use Rattle.std.proofs.lemmas.List.{take_rest}
use Rattle.ref_counts.specs.declared.name.Name.TheVariants as name
use Rattle.ref_counts.specs.Registered.{with_pin}
use Rattle.ref_counts.specs.Registry.{are_live, changed, pinned}
use Rattle.ref_counts.proofs.Changing.{pin-undone}
use Rattle.ref_counts.proofs.Found.{live-next}
use Rattle.ref_counts.proofs.pinning.+pin_each.Goals as goal

pub returns-in_default-clause-ok : goal.returns-in_default-clause-ok
returns-in_default-clause-ok t c [] is = search rules
returns-in_default-clause-ok t c (k ∷ ks) is =
    let first : c.name-item.result ≡ name.Row k = search rules in
    c.in_default.ensures.ok ks (take_rest c.args.rows.now 1 ∙ ap (drop 1) is)
    ∙ ap (λ ns. pinned ns c.args.worker c.args.user.now ks) (c.in_ok-pin-in-len1-up.ensures.ok ∙ ap (λ n. changed c.args.names.now n (with_pin c.args.worker c.args.user.now)) first)

pub returns-in-Err-clause-err : goal.returns-in-Err-clause-err
returns-in-Err-clause-err t c = pin-undone c.name-item.result c.args.worker c.args.user.now c.args.names.now c.pin.new.names c.pin_each.new.names c.unpin_last.new.names c.in_ok-pin-in-len1-up.ensures.ok c.in-Err.ensures.err c.unpin_last.ensures

pub returns-in-Err-clause-other : goal.returns-in-Err-clause-other
returns-in-Err-clause-other t c = λ same.
    let parts : c.args.rows.now ≡ c.name-item.result ∷ drop 1 c.args.rows.now = search rules in
    let pin = c.in_ok-pin-in-len1-up.ensures in
    ap (are_live c.args.names.now) parts
    ∙ live-next c.args.names.now c.pin.new.names c.args.worker c.args.user.now c.name-item.result (drop 1 c.args.rows.now) pin.ok pin.live
    ∙ ap (are_live c.pin.new.names) (sym (take_rest c.args.rows.now 1)) ∙ c.in-Err.ensures.other same

pub returns-in_default-clause-live : goal.returns-in_default-clause-live
returns-in_default-clause-live t c =
    let parts : c.args.rows.now ≡ c.name-item.result ∷ drop 1 c.args.rows.now = search rules in
    let pin = c.in_ok-pin-in-len1-up.ensures in
    ap (are_live c.args.names.now) parts
    ∙ live-next c.args.names.now c.pin.new.names c.args.worker c.args.user.now c.name-item.result (drop 1 c.args.rows.now) pin.ok pin.live
    ∙ ap (are_live c.pin.new.names) (sym (take_rest c.args.rows.now 1)) ∙ c.in_default.ensures.live
