use Rattle.std.proofs.Common.{rules, ℕ, Option, option_map, refl, sym, ap, ◌∙◌}
use Rattle.std.specs.Ordering.{is_lt}
use Rattle.std.proofs.lemmas.Fn.{always_returns_same}
use Rattle.std.proofs.lemmas.Option.{slice_get_past, slice_get_read}
use Rattle.view_match.specs.declared.indexed.Partner.{Partner}
use Rattle.view_match.specs.declared.key.NaturalKey.{NaturalKey}
use Rattle.view_match.specs.Indexed.{lent_entry}
use Rattle.view_match.specs.Keys.{natural_key_cmp}
use Rattle.view_match.proofs.Rising.{IndexEntry, found-point, partner_in}
use Rattle.view_match.proofs.pairing.place_of.Goals as goal

abbrev place_in : NaturalKey → Option IndexEntry → Option ℕ
place_in key e = option_map (λ (p : Partner). p.place) (partner_in key e)

pub returns-in-Some : goal.returns-in-Some
returns-in-Some c = λ rise.
    let key = c.args.key.now in
    let item = c.in-Some.ensures.lookup in
    let point = c.partition_point-at.ensures.partitioned (λ x. is_lt (natural_key_cmp (lent_entry x).0 key)) (always_returns_same _ _ _ (λ a r f h. search rules)) in
    c.place_if.ensures
    ∙ ap (λ x. place_in key (option_map lent_entry x)) (sym (slice_get_read c.args.index.now _ c.partition_point-at.result c.in-Some.one.now refl item.3.0 item.1))
    ∙ ap (option_map (λ (p : Partner). p.place)) (sym (found-point key lent_entry c.args.index.now c.partition_point-at.result rise point))

pub returns-in-None : goal.returns-in-None
returns-in-None c = λ rise.
    let key = c.args.key.now in
    let point = c.partition_point-at.ensures.partitioned (λ x. is_lt (natural_key_cmp (lent_entry x).0 key)) (always_returns_same _ _ _ (λ a r f h. search rules)) in
    ap (λ x. place_in key (option_map lent_entry x)) (sym (slice_get_past c.args.index.now c.partition_point-at.result c.in-None.ensures.lookup.3))
    ∙ ap (option_map (λ (p : Partner). p.place)) (sym (found-point key lent_entry c.args.index.now c.partition_point-at.result rise point))
