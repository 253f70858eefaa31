use Rattle.std.proofs.Common.{◌≡◌, ◌+◌, ◌≤◌, ◌<◌, ◌∷◌, ◌∙◌, ap, drop, length, sym, arith}
use Rattle.std.proofs.lemmas.Bool.{eqb-true}
use Rattle.std.proofs.lemmas.List.{drop_all, drop_more}
use Rattle.flight_board.specs.Applied.{row_at}
use Rattle.mark_lists.proofs.Listings.{listed_first, listed_none}
use Rattle.mark_lists.proofs.lists.is_list.Goals as goal

pub loop-key-init : goal.loop-key-init
loop-key-init c = λ h. h

pub loop-key-preserved : goal.loop-key-preserved
loop-key-preserved c =
    let keys = c.args.keys.now in
    let at = c.loop-key.key-index in
    let key = c.key-item.result in
    λ more. c.loop-key.invariant (listed_first c.args.waiting.now (row_at c.args.board.now.applied) (drop at keys) (drop (at + 1) keys) key c.loop-key.left.now c.in-Some.rest.now c.in-Some.listed.now
    (drop_more keys at key c.loop-key-test.true ∙ ap (λ k. k ∷ drop (at + 1) keys) (sym c.key-item.is)) c.in-Some.ensures.cases.0 (c.is_listed.ensures c.if-not-is_listed.false) more)

pub returns : goal.returns
returns c = λ empty.
    let keys = c.args.keys.now in
    let at = c.loop-key.key-index in
    c.loop-key.invariant (listed_none c.args.waiting.now (row_at c.args.board.now.applied) (drop at keys) c.loop-key.left.now (drop_all at keys c.loop-key-test.false) (eqb-true (length c.loop-key.left.now) 0 (sym c.is_empty.ensures ∙ empty)))
