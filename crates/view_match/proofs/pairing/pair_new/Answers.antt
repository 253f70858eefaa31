use Rattle.std.proofs.Common.{◌≡◌, ◌+◌, ◌++◌, drop, None, Some, rules, sym, ap, ◌∙◌, subst}
use Rattle.std.proofs.lemmas.List.{append-nil}
use Rattle.view_match.specs.Pairs.{new_key, new_keys, pairs_from}
use Rattle.view_match.proofs.Free.{pairs-next, push-free}
use Rattle.view_match.proofs.Routeless.{keys-split, new_keys_among}
use Rattle.view_match.proofs.pairing.pair_new.Goals as goal
use Rattle.view_match.proofs.pairing.pair_new.Goals.{in-Some+in_ok-push, in_default}

pub push-requires : goal.push-requires
push-requires c =
    let new = c.args.new.now in
    let given = c.requires.indexed in
    let split = keys-split new c.loop-object.object-index c.object-item.result c.loop-object-test.true c.object-item.is in
    push-free given.0 (new_keys new) (new_keys_among new (drop (c.loop-object.object-index + 1) new)) c.loop-object.place c.in-Some.partner (new_key new c.object-item.result) c.loop-object.pairing
    (sym (c.in_ok-partner.ensures given.0 new given.1 c.requires.named) ∙ c.in-Some.is)
    c.requires.distinct
    (subst (λ ks. c.loop-object.pairing ++ pairs_from given.0 ks c.loop-object.place ≡ pairs_from given.0 (new_keys new) 0) split (c.loop-object.invariant.pairs given.0 given.1))

pub loop-object-preserved : goal.loop-object-preserved
loop-object-preserved c =
    let new = c.args.new.now in
    let o = c.object-item.result in
    let split = keys-split new c.loop-object.object-index o c.loop-object-test.true c.object-item.is in
    record {
      counted = ap (λ n. n + 1) c.loop-object.invariant.counted;
      pairs = λ objects index.
          let found = c.in_ok-partner.ensures objects new index c.requires.named in
          let so_far = subst (λ ks. c.loop-object.pairing ++ pairs_from objects ks c.loop-object.place ≡ pairs_from objects (new_keys new) 0) split (c.loop-object.invariant.pairs objects index) in
          let next = pairs-next objects c.loop-object.pairing c.match-branch-2.pairing (pairs_from objects (new_keys new) 0) (new_key new o) (new_keys_among new (drop (c.loop-object.object-index + 1) new)) c.loop-object.place in
          elim c.match-branch-2.branch [
            | in-Some+in_ok-push w ↦ next (Some w.in-Some.partner) (sym w.in-Some.is ∙ found) (search rules) so_far
            | in_default w ↦ next None (sym w.in_default.is ∙ found) (w.pairing-is ∙ sym (append-nil c.loop-object.pairing)) so_far
          ];
    }
