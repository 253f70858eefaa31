use Rattle.std.proofs.Common.{rules, ◌≡◌, ◌∙◌, ◌∷◌, ◌++◌, [], ap, subst, sym}
use Rattle.std.proofs.lemmas.List.{append-nil, append_assoc, nil_from_length}
use Rattle.std.specs.Prelude.{option_map}
use Rattle.sai_types.specs.Alike.{IsIn}
use Rattle.retry_list.specs.Listed.{AreListedWith}
use Rattle.mark_lists.specs.Rows.{rows_on}
use Rattle.mark_lists.proofs.Listings.{if_ok, in_middle, listed_one_more}
use Rattle.mark_lists.proofs.lists.listed.Goals as goal

pub loop-key-init : goal.loop-key-init
loop-key-init c = ([], search rules, subst (AreListedWith c.args.waiting.now (rows_on (option_map (λ b. b.now) c.args.board)) []) (sym c.in_ok-waits.ensures.items) tt)

pub listing-requires : goal.listing-requires
listing-requires c =
    let left : c.loop-key.key-iterator.rest.items ≡ c.in-Some.key ∷ c.next.new.self.rest.items = search rules in
    record { listed = c.requires.listed c.in-Some.key (subst (IsIn c.in-Some.key) (sym (c.loop-key.invariant.1 ∙ ap (λ l. c.loop-key.invariant.0 ++ l) left)) (in_middle c.loop-key.invariant.0 c.next.new.self.rest.items c.in-Some.key)) }

pub loop-key-preserved : goal.loop-key-preserved
loop-key-preserved c =
    let left : c.loop-key.key-iterator.rest.items ≡ c.in-Some.key ∷ c.next.new.self.rest.items = search rules in (
      c.loop-key.invariant.0 ++ c.in-Some.key ∷ [],
      c.loop-key.invariant.1 ∙ ap (λ l. c.loop-key.invariant.0 ++ l) left ∙ sym (append_assoc c.loop-key.invariant.0 (c.in-Some.key ∷ []) c.next.new.self.rest.items),
      listed_one_more c.args.waiting.now (rows_on (option_map (λ b. b.now) c.args.board)) c.loop-key.invariant.0 c.loop-key.waits.items c.push.new.self.items c.in-Some.key c.in_ok-listing.field-0 c.in_ok-push.ensures.items c.loop-key.invariant.2 c.in_ok-listing.ensures,
    )

pub returns : goal.returns
returns c =
    let rows = rows_on (option_map (λ b. b.now) c.args.board) in
    let none : c.loop-key.key-iterator.rest.items ≡ [] = nil_from_length c.loop-key.key-iterator.rest.items (sym c.loop-key.key-iterator.rest.ok.0 ∙ c.in-None.ensures.steps.0) in
    let all = c.loop-key.invariant.1 ∙ ap (λ l. c.loop-key.invariant.0 ++ l) none ∙ append-nil c.loop-key.invariant.0 in
    if_ok c.from_vec.result (λ list same. subst (AreListedWith c.args.waiting.now rows c.args.keys.items) (sym same) (subst (λ l. AreListedWith c.args.waiting.now rows l c.loop-key.waits.items) (sym all) c.loop-key.invariant.2)) c.from_vec.ensures
