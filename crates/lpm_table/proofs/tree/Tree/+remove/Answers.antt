use Rattle.std.proofs.Common.{◌≡◌, ◌≢◌, ◌<◌, ◌≤◌, true, false, not, [], ◌∷◌, ◌++◌, length, sym, ap, ◌∙◌, subst, arith, rules}
use Rattle.std.specs.List.{list_any}
use Rattle.std.specs.Set.{remove_key}
use Rattle.std.proofs.lemmas.Bool.{false≢true}
use Rattle.swss_types.specs.Address.{front}
use Rattle.lpm_table.specs.Parts.{whole}
use Rattle.lpm_table.specs.Trees.{AreOf, IsNode, preorder, members, members_at, rest}
use Rattle.lpm_table.proofs.Nodes.{finds, listed_some, node_marked}
use Rattle.lpm_table.proofs.Steps.{AtNode, at_free, at_held_self, at_none, at_none_self, at_others, at_out, at_out_within, at_remove_self, at_same, at_some, at_within, held_none, held_only, kept_none, removed_only}
use Rattle.lpm_table.proofs.Sides.{left_some, node_emptied, node_removed, node_same, side_held, side_of, side_removed, side_shorter, side_under, taken}
use Rattle.lpm_table.proofs.tree.Tree.+remove.Goals as goal
use Rattle.lpm_table.proofs.tree.Tree.+remove.Goals.{then-prefix-node-via-then-prefix-node, then-prefix-node-via-else-prefix-node+then-not-agree}

pub returns-then-prefix-node-clause-removed : goal.returns-then-prefix-node-clause-removed
returns-then-prefix-node-clause-removed t c =
    let i = c.self.inside in
    let p = whole c.args.prefix.now in
    let h : AtNode (whole i.parts) i.put (members_at false i.below) (members_at true i.below) c.args.self.now p c.width.result = record { node = c.self.invariant; is = c.self.view_is; proper = c.requires.proper; of = c.requires.family; wide = c.width.ensures } in
    let out : i.parts.len ≤ p.len → front (rest (whole i.parts)) p.ip.bits ≢ front (rest (whole i.parts)) i.parts.bits = elim c.then-prefix-node.branch [
      | then-prefix-node-via-then-prefix-node w ↦ λ long. absurd (omega (arith, long, w.if-prefix-node.true))
      | then-prefix-node-via-else-prefix-node+then-not-agree w ↦ λ long. at_out h w.if-not-agree.ensures
    ] in
    kept_none p c.args.self.now (at_none h (at_out_within h out))

pub returns-then-prefix-node-clause-held : goal.returns-then-prefix-node-clause-held
returns-then-prefix-node-clause-held t c =
    let i = c.self.inside in
    let p = whole c.args.prefix.now in
    let h : AtNode (whole i.parts) i.put (members_at false i.below) (members_at true i.below) c.args.self.now p c.width.result = record { node = c.self.invariant; is = c.self.view_is; proper = c.requires.proper; of = c.requires.family; wide = c.width.ensures } in
    let out : i.parts.len ≤ p.len → front (rest (whole i.parts)) p.ip.bits ≢ front (rest (whole i.parts)) i.parts.bits = elim c.then-prefix-node.branch [
      | then-prefix-node-via-then-prefix-node w ↦ λ long. absurd (omega (arith, long, w.if-prefix-node.true))
      | then-prefix-node-via-else-prefix-node+then-not-agree w ↦ λ long. at_out h w.if-not-agree.ensures
    ] in
    held_none p c.args.self.now (at_none h (at_out_within h out))

pub returns-then-prefix-node-clause-some : goal.returns-then-prefix-node-clause-some
returns-then-prefix-node-clause-some t c =
    let i = c.self.inside in
    let p = whole c.args.prefix.now in
    let h : AtNode (whole i.parts) i.put (members_at false i.below) (members_at true i.below) c.args.self.now p c.width.result = record { node = c.self.invariant; is = c.self.view_is; proper = c.requires.proper; of = c.requires.family; wide = c.width.ensures } in
    at_some h

pub returns-then-not-self-clause-removed : goal.returns-then-not-self-clause-removed
returns-then-not-self-clause-removed t c =
    let i = c.self.inside in
    let p = whole c.args.prefix.now in
    let h : AtNode (whole i.parts) i.put (members_at false i.below) (members_at true i.below) c.args.self.now p c.width.result = record { node = c.self.invariant; is = c.self.view_is; proper = c.requires.proper; of = c.requires.family; wide = c.width.ensures } in
    let within = at_within h (omega (arith, c.if-prefix-node.false)) c.if-not-agree.ensures in
    let same = at_same h within (sym c.if-prefix-node-2.true) in
    kept_none p c.args.self.now (at_none_self h same c.if-not-self.true)

pub returns-then-not-self-clause-held : goal.returns-then-not-self-clause-held
returns-then-not-self-clause-held t c =
    let i = c.self.inside in
    let p = whole c.args.prefix.now in
    let h : AtNode (whole i.parts) i.put (members_at false i.below) (members_at true i.below) c.args.self.now p c.width.result = record { node = c.self.invariant; is = c.self.view_is; proper = c.requires.proper; of = c.requires.family; wide = c.width.ensures } in
    let within = at_within h (omega (arith, c.if-prefix-node.false)) c.if-not-agree.ensures in
    let same = at_same h within (sym c.if-prefix-node-2.true) in
    held_none p c.args.self.now (at_none_self h same c.if-not-self.true)

pub returns-then-not-self-clause-some : goal.returns-then-not-self-clause-some
returns-then-not-self-clause-some t c =
    let i = c.self.inside in
    let p = whole c.args.prefix.now in
    let h : AtNode (whole i.parts) i.put (members_at false i.below) (members_at true i.below) c.args.self.now p c.width.result = record { node = c.self.invariant; is = c.self.view_is; proper = c.requires.proper; of = c.requires.family; wide = c.width.ensures } in
    at_some h

pub without-requires-clause-node : goal.without-requires-clause-node
without-requires-clause-node t c =
    let i = c.self.inside in
    subst (λ r. IsNode (whole i.parts) true (members_at false r) (members_at true r)) (sym c.replace-below.ensures.value) (node_marked (whole i.parts) i.put (members_at false i.below) (members_at true i.below) c.self.invariant)

pub without-requires-clause-some : goal.without-requires-clause-some
without-requires-clause-some t c =
    let i = c.self.inside in
    let p = whole c.args.prefix.now in
    let h : AtNode (whole i.parts) i.put (members_at false i.below) (members_at true i.below) c.args.self.now p c.width.result = record { node = c.self.invariant; is = c.self.view_is; proper = c.requires.proper; of = c.requires.family; wide = c.width.ensures } in
    let within = at_within h (omega (arith, c.if-prefix-node.false)) c.if-not-agree.ensures in
    let same = at_same h within (sym c.if-prefix-node-2.true) in
    subst (λ r. 0 < length (members_at false r ++ members_at true r)) (sym c.replace-below.ensures.value) (at_others h same c.if-not-self.false c.requires.others)

pub returns-then-prefix-node-2-clause-removed : goal.returns-then-prefix-node-2-clause-removed
returns-then-prefix-node-2-clause-removed t c =
    let i = c.self.inside in
    let p = whole c.args.prefix.now in
    let h : AtNode (whole i.parts) i.put (members_at false i.below) (members_at true i.below) c.args.self.now p c.width.result = record { node = c.self.invariant; is = c.self.view_is; proper = c.requires.proper; of = c.requires.family; wide = c.width.ensures } in
    let within = at_within h (omega (arith, c.if-prefix-node.false)) c.if-not-agree.ensures in
    let same = at_same h within (sym c.if-prefix-node-2.true) in
    c.without-then-prefix-node-2.view_is ∙ c.without.ensures ∙ ap (λ r. members_at false r ++ members_at true r) c.replace-below.ensures.value ∙ at_remove_self h same c.if-not-self.false

pub returns-then-prefix-node-2-clause-held : goal.returns-then-prefix-node-2-clause-held
returns-then-prefix-node-2-clause-held t c =
    let i = c.self.inside in
    let p = whole c.args.prefix.now in
    let h : AtNode (whole i.parts) i.put (members_at false i.below) (members_at true i.below) c.args.self.now p c.width.result = record { node = c.self.invariant; is = c.self.view_is; proper = c.requires.proper; of = c.requires.family; wide = c.width.ensures } in
    let within = at_within h (omega (arith, c.if-prefix-node.false)) c.if-not-agree.ensures in
    let same = at_same h within (sym c.if-prefix-node-2.true) in
    at_held_self h same c.if-not-self.false

pub returns-then-prefix-node-2-clause-some : goal.returns-then-prefix-node-2-clause-some
returns-then-prefix-node-2-clause-some t c =
    let i = c.self.inside in
    let p = whole c.args.prefix.now in
    let h : AtNode (whole i.parts) i.put (members_at false i.below) (members_at true i.below) c.args.self.now p c.width.result = record { node = c.self.invariant; is = c.self.view_is; proper = c.requires.proper; of = c.requires.family; wide = c.width.ensures } in
    let within = at_within h (omega (arith, c.if-prefix-node.false)) c.if-not-agree.ensures in
    let same = at_same h within (sym c.if-prefix-node-2.true) in
    subst (λ l. 0 < length l) (sym (c.without-then-prefix-node-2.view_is ∙ c.without.ensures)) (subst (λ r. 0 < length (members_at false r ++ members_at true r)) (sym c.replace-below.ensures.value) (at_others h same c.if-not-self.false c.requires.others))

pub overflow_sub-rest-2 : goal.overflow_sub-rest-2
overflow_sub-rest-2 t c =
    let i = c.self.inside in
    let p = whole c.args.prefix.now in
    let h : AtNode (whole i.parts) i.put (members_at false i.below) (members_at true i.below) c.args.self.now p c.width.result = record { node = c.self.invariant; is = c.self.view_is; proper = c.requires.proper; of = c.requires.family; wide = c.width.ensures } in
    let within = at_within h (omega (arith, c.if-prefix-node.false)) c.if-not-agree.ensures in
    at_free h within (omega (arith, c.if-prefix-node.false, c.if-prefix-node-2.false))

pub invariant_of-self-in-None : goal.invariant_of-self-in-None
invariant_of-self-in-None t c =
    let i = c.self.inside in
    let p = whole c.args.prefix.now in
    let h : AtNode (whole i.parts) i.put (members_at false i.below) (members_at true i.below) c.args.self.now p c.width.result = record { node = c.self.invariant; is = c.self.view_is; proper = c.requires.proper; of = c.requires.family; wide = c.width.ensures } in
    let one = c.is_one-one.result in
    let e = sym (taken one i.below c.replace.result c.split-side.result.0 c.split-side.ensures.at c.replace.ensures.value) ∙ ap members c.in-None.is in
    let at = ap members c.of.ensures.at in
    let other : members_at (not one) c.of.result ≡ members_at (not one) i.below = ap members c.of.ensures.other ∙ taken (not one) i.below c.replace.result c.split-side.result.1 c.split-side.ensures.other c.replace.ensures.value in
    node_same i.below h one c.of.result other (at ∙ sym e)

pub returns-in-None-clause-removed : goal.returns-in-None-clause-removed
returns-in-None-clause-removed t c =
    let i = c.self.inside in
    let p = whole c.args.prefix.now in
    let h : AtNode (whole i.parts) i.put (members_at false i.below) (members_at true i.below) c.args.self.now p c.width.result = record { node = c.self.invariant; is = c.self.view_is; proper = c.requires.proper; of = c.requires.family; wide = c.width.ensures } in
    let one = c.is_one-one.result in
    let e = sym (taken one i.below c.replace.result c.split-side.result.0 c.split-side.ensures.at c.replace.ensures.value) ∙ ap members c.in-None.is in
    let at = ap members c.of.ensures.at in
    let other : members_at (not one) c.of.result ≡ members_at (not one) i.below = ap members c.of.ensures.other ∙ taken (not one) i.below c.replace.result c.split-side.result.1 c.split-side.ensures.other c.replace.ensures.value in
    let within = at_within h (omega (arith, c.if-prefix-node.false)) c.if-not-agree.ensures in
    let under = side_under i.below h one within (omega (arith, c.if-prefix-node.false, c.if-prefix-node-2.false)) c.is_one-one.ensures in
    side_removed i.below h one c.of.result other under (at ∙ ap (remove_key (finds p)) (sym e))

pub returns-in-None-clause-held : goal.returns-in-None-clause-held
returns-in-None-clause-held t c =
    let i = c.self.inside in
    let p = whole c.args.prefix.now in
    let h : AtNode (whole i.parts) i.put (members_at false i.below) (members_at true i.below) c.args.self.now p c.width.result = record { node = c.self.invariant; is = c.self.view_is; proper = c.requires.proper; of = c.requires.family; wide = c.width.ensures } in
    let one = c.is_one-one.result in
    let e = sym (taken one i.below c.replace.result c.split-side.result.0 c.split-side.ensures.at c.replace.ensures.value) ∙ ap members c.in-None.is in
    let within = at_within h (omega (arith, c.if-prefix-node.false)) c.if-not-agree.ensures in
    let under = side_under i.below h one within (omega (arith, c.if-prefix-node.false, c.if-prefix-node-2.false)) c.is_one-one.ensures in
    side_held i.below h one under false (ap (list_any (finds p)) (sym e))

pub returns-in-None-clause-some : goal.returns-in-None-clause-some
returns-in-None-clause-some t c =
    let i = c.self.inside in
    let p = whole c.args.prefix.now in
    let h : AtNode (whole i.parts) i.put (members_at false i.below) (members_at true i.below) c.args.self.now p c.width.result = record { node = c.self.invariant; is = c.self.view_is; proper = c.requires.proper; of = c.requires.family; wide = c.width.ensures } in
    let one = c.is_one-one.result in
    let e = sym (taken one i.below c.replace.result c.split-side.result.0 c.split-side.ensures.at c.replace.ensures.value) ∙ ap members c.in-None.is in
    let at = ap members c.of.ensures.at in
    let other : members_at (not one) c.of.result ≡ members_at (not one) i.below = ap members c.of.ensures.other ∙ taken (not one) i.below c.replace.result c.split-side.result.1 c.split-side.ensures.other c.replace.ensures.value in
    listed_some (whole i.parts) i.put (members_at false c.of.result) (members_at true c.of.result) (node_same i.below h one c.of.result other (at ∙ sym e))

pub left-requires-clause-node : goal.left-requires-clause-node
left-requires-clause-node t c =
    let i = c.self.inside in
    let p = whole c.args.prefix.now in
    let h : AtNode (whole i.parts) i.put (members_at false i.below) (members_at true i.below) c.args.self.now p c.width.result = record { node = c.self.invariant; is = c.self.view_is; proper = c.requires.proper; of = c.requires.family; wide = c.width.ensures } in
    let one = c.is_one-one.result in
    let only : members_at one i.below ≡ p ∷ [] = sym (taken one i.below c.replace.result c.split-side.result.0 c.split-side.ensures.at c.replace.ensures.value) ∙ ap members c.in-Some.is ∙ sym c.deref.ensures ∙ c.is_only.ensures.0 c.if-is_only.true in
    let at = ap members c.of-then-is_only.ensures.at in
    let other : members_at (not one) c.of-then-is_only.result ≡ members_at (not one) i.below = ap members c.of-then-is_only.ensures.other ∙ taken (not one) i.below c.replace.result c.split-side.result.1 c.split-side.ensures.other c.replace.ensures.value in
    let within = at_within h (omega (arith, c.if-prefix-node.false)) c.if-not-agree.ensures in
    let under = side_under i.below h one within (omega (arith, c.if-prefix-node.false, c.if-prefix-node-2.false)) c.is_one-one.ensures in
    node_emptied i.below h one c.of-then-is_only.result other under (at ∙ removed_only p (members_at one i.below) only)

pub left-requires-clause-some : goal.left-requires-clause-some
left-requires-clause-some t c =
    let i = c.self.inside in
    let p = whole c.args.prefix.now in
    let h : AtNode (whole i.parts) i.put (members_at false i.below) (members_at true i.below) c.args.self.now p c.width.result = record { node = c.self.invariant; is = c.self.view_is; proper = c.requires.proper; of = c.requires.family; wide = c.width.ensures } in
    let one = c.is_one-one.result in
    let other : members_at (not one) c.of-then-is_only.result ≡ members_at (not one) i.below = ap members c.of-then-is_only.ensures.other ∙ taken (not one) i.below c.replace.result c.split-side.result.1 c.split-side.ensures.other c.replace.ensures.value in
    subst (λ b. 0 < length (preorder (whole i.parts) b (members_at false c.of-then-is_only.result) (members_at true c.of-then-is_only.result))) (sym c.replace-put.ensures.value) (left_some i.put one (whole i.parts) i.below c.of-then-is_only.result c.self.invariant other)

pub returns-then-is_only-clause-removed : goal.returns-then-is_only-clause-removed
returns-then-is_only-clause-removed t c =
    let i = c.self.inside in
    let p = whole c.args.prefix.now in
    let h : AtNode (whole i.parts) i.put (members_at false i.below) (members_at true i.below) c.args.self.now p c.width.result = record { node = c.self.invariant; is = c.self.view_is; proper = c.requires.proper; of = c.requires.family; wide = c.width.ensures } in
    let one = c.is_one-one.result in
    let only : members_at one i.below ≡ p ∷ [] = sym (taken one i.below c.replace.result c.split-side.result.0 c.split-side.ensures.at c.replace.ensures.value) ∙ ap members c.in-Some.is ∙ sym c.deref.ensures ∙ c.is_only.ensures.0 c.if-is_only.true in
    let at = ap members c.of-then-is_only.ensures.at in
    let other : members_at (not one) c.of-then-is_only.result ≡ members_at (not one) i.below = ap members c.of-then-is_only.ensures.other ∙ taken (not one) i.below c.replace.result c.split-side.result.1 c.split-side.ensures.other c.replace.ensures.value in
    let within = at_within h (omega (arith, c.if-prefix-node.false)) c.if-not-agree.ensures in
    let under = side_under i.below h one within (omega (arith, c.if-prefix-node.false, c.if-prefix-node-2.false)) c.is_one-one.ensures in
    c.left-then-is_only.view_is ∙ c.left.ensures ∙ ap (λ b. preorder (whole i.parts) b (members_at false c.of-then-is_only.result) (members_at true c.of-then-is_only.result)) c.replace-put.ensures.value ∙ side_removed i.below h one c.of-then-is_only.result other under (at ∙ removed_only p (members_at one i.below) only)

pub returns-then-is_only-clause-held : goal.returns-then-is_only-clause-held
returns-then-is_only-clause-held t c =
    let i = c.self.inside in
    let p = whole c.args.prefix.now in
    let h : AtNode (whole i.parts) i.put (members_at false i.below) (members_at true i.below) c.args.self.now p c.width.result = record { node = c.self.invariant; is = c.self.view_is; proper = c.requires.proper; of = c.requires.family; wide = c.width.ensures } in
    let one = c.is_one-one.result in
    let only : members_at one i.below ≡ p ∷ [] = sym (taken one i.below c.replace.result c.split-side.result.0 c.split-side.ensures.at c.replace.ensures.value) ∙ ap members c.in-Some.is ∙ sym c.deref.ensures ∙ c.is_only.ensures.0 c.if-is_only.true in
    let within = at_within h (omega (arith, c.if-prefix-node.false)) c.if-not-agree.ensures in
    let under = side_under i.below h one within (omega (arith, c.if-prefix-node.false, c.if-prefix-node-2.false)) c.is_one-one.ensures in
    side_held i.below h one under true (held_only p (members_at one i.below) only)

pub returns-then-is_only-clause-some : goal.returns-then-is_only-clause-some
returns-then-is_only-clause-some t c =
    let i = c.self.inside in
    let p = whole c.args.prefix.now in
    let h : AtNode (whole i.parts) i.put (members_at false i.below) (members_at true i.below) c.args.self.now p c.width.result = record { node = c.self.invariant; is = c.self.view_is; proper = c.requires.proper; of = c.requires.family; wide = c.width.ensures } in
    let one = c.is_one-one.result in
    let other : members_at (not one) c.of-then-is_only.result ≡ members_at (not one) i.below = ap members c.of-then-is_only.ensures.other ∙ taken (not one) i.below c.replace.result c.split-side.result.1 c.split-side.ensures.other c.replace.ensures.value in
    subst (λ l. 0 < length l) (sym (c.left-then-is_only.view_is ∙ c.left.ensures)) (subst (λ b. 0 < length (preorder (whole i.parts) b (members_at false c.of-then-is_only.result) (members_at true c.of-then-is_only.result))) (sym c.replace-put.ensures.value) (left_some i.put one (whole i.parts) i.below c.of-then-is_only.result c.self.invariant other))

pub remove-held-requires : goal.remove-held-requires
remove-held-requires t c =
    let i = c.self.inside in
    let p = whole c.args.prefix.now in
    let h : AtNode (whole i.parts) i.put (members_at false i.below) (members_at true i.below) c.args.self.now p c.width.result = record { node = c.self.invariant; is = c.self.view_is; proper = c.requires.proper; of = c.requires.family; wide = c.width.ensures } in
    let one = c.is_one-one.result in
    let e : members_at one i.below ≡ c.deref_mut.result.now = sym (taken one i.below c.replace.result c.split-side.result.0 c.split-side.ensures.at c.replace.ensures.value) ∙ ap members c.in-Some.is ∙ sym c.deref_mut.ensures.value in
    let less : length c.deref_mut.result.now < length c.args.self.now = subst (λ l. length l < length c.args.self.now) e (side_shorter i.below h one) in
    let others : c.deref_mut.result.now ≢ p ∷ [] = λ same. false≢true (sym c.if-is_only.false ∙ c.is_only.ensures.1 (c.deref.ensures ∙ sym c.deref_mut.ensures.value ∙ same)) in
    (search rules, (c.requires.proper, (subst (AreOf c.args.prefix.now.family) e (side_of i.below h one), others)))

pub invariant_of-self-else-is_only : goal.invariant_of-self-else-is_only
invariant_of-self-else-is_only t c =
    let i = c.self.inside in
    let p = whole c.args.prefix.now in
    let h : AtNode (whole i.parts) i.put (members_at false i.below) (members_at true i.below) c.args.self.now p c.width.result = record { node = c.self.invariant; is = c.self.view_is; proper = c.requires.proper; of = c.requires.family; wide = c.width.ensures } in
    let one = c.is_one-one.result in
    let e : members_at one i.below ≡ c.deref_mut.result.now = sym (taken one i.below c.replace.result c.split-side.result.0 c.split-side.ensures.at c.replace.ensures.value) ∙ ap members c.in-Some.is ∙ sym c.deref_mut.ensures.value in
    let at = ap members c.of-else-is_only.ensures.at in
    let other : members_at (not one) c.of-else-is_only.result ≡ members_at (not one) i.below = ap members c.of-else-is_only.ensures.other ∙ taken (not one) i.below c.replace.result c.split-side.result.1 c.split-side.ensures.other c.replace.ensures.value in
    let within = at_within h (omega (arith, c.if-prefix-node.false)) c.if-not-agree.ensures in
    let under = side_under i.below h one within (omega (arith, c.if-prefix-node.false, c.if-prefix-node-2.false)) c.is_one-one.ensures in
    node_removed i.below h one c.of-else-is_only.result other under (at ∙ c.remove-held.ensures.removed ∙ ap (remove_key (finds p)) (sym e)) (subst (λ l. 0 < length l) (sym at) c.remove-held.ensures.some)

pub returns-else-is_only-clause-removed : goal.returns-else-is_only-clause-removed
returns-else-is_only-clause-removed t c =
    let i = c.self.inside in
    let p = whole c.args.prefix.now in
    let h : AtNode (whole i.parts) i.put (members_at false i.below) (members_at true i.below) c.args.self.now p c.width.result = record { node = c.self.invariant; is = c.self.view_is; proper = c.requires.proper; of = c.requires.family; wide = c.width.ensures } in
    let one = c.is_one-one.result in
    let e : members_at one i.below ≡ c.deref_mut.result.now = sym (taken one i.below c.replace.result c.split-side.result.0 c.split-side.ensures.at c.replace.ensures.value) ∙ ap members c.in-Some.is ∙ sym c.deref_mut.ensures.value in
    let at = ap members c.of-else-is_only.ensures.at in
    let other : members_at (not one) c.of-else-is_only.result ≡ members_at (not one) i.below = ap members c.of-else-is_only.ensures.other ∙ taken (not one) i.below c.replace.result c.split-side.result.1 c.split-side.ensures.other c.replace.ensures.value in
    let within = at_within h (omega (arith, c.if-prefix-node.false)) c.if-not-agree.ensures in
    let under = side_under i.below h one within (omega (arith, c.if-prefix-node.false, c.if-prefix-node-2.false)) c.is_one-one.ensures in
    side_removed i.below h one c.of-else-is_only.result other under (at ∙ c.remove-held.ensures.removed ∙ ap (remove_key (finds p)) (sym e))

pub returns-else-is_only-clause-held : goal.returns-else-is_only-clause-held
returns-else-is_only-clause-held t c =
    let i = c.self.inside in
    let p = whole c.args.prefix.now in
    let h : AtNode (whole i.parts) i.put (members_at false i.below) (members_at true i.below) c.args.self.now p c.width.result = record { node = c.self.invariant; is = c.self.view_is; proper = c.requires.proper; of = c.requires.family; wide = c.width.ensures } in
    let one = c.is_one-one.result in
    let e : members_at one i.below ≡ c.deref_mut.result.now = sym (taken one i.below c.replace.result c.split-side.result.0 c.split-side.ensures.at c.replace.ensures.value) ∙ ap members c.in-Some.is ∙ sym c.deref_mut.ensures.value in
    let within = at_within h (omega (arith, c.if-prefix-node.false)) c.if-not-agree.ensures in
    let under = side_under i.below h one within (omega (arith, c.if-prefix-node.false, c.if-prefix-node-2.false)) c.is_one-one.ensures in
    side_held i.below h one under c.remove-held.result (c.remove-held.ensures.held ∙ ap (list_any (finds p)) (sym e))

pub returns-else-is_only-clause-some : goal.returns-else-is_only-clause-some
returns-else-is_only-clause-some t c =
    let i = c.self.inside in
    let p = whole c.args.prefix.now in
    let h : AtNode (whole i.parts) i.put (members_at false i.below) (members_at true i.below) c.args.self.now p c.width.result = record { node = c.self.invariant; is = c.self.view_is; proper = c.requires.proper; of = c.requires.family; wide = c.width.ensures } in
    let one = c.is_one-one.result in
    let e : members_at one i.below ≡ c.deref_mut.result.now = sym (taken one i.below c.replace.result c.split-side.result.0 c.split-side.ensures.at c.replace.ensures.value) ∙ ap members c.in-Some.is ∙ sym c.deref_mut.ensures.value in
    let at = ap members c.of-else-is_only.ensures.at in
    let other : members_at (not one) c.of-else-is_only.result ≡ members_at (not one) i.below = ap members c.of-else-is_only.ensures.other ∙ taken (not one) i.below c.replace.result c.split-side.result.1 c.split-side.ensures.other c.replace.ensures.value in
    let within = at_within h (omega (arith, c.if-prefix-node.false)) c.if-not-agree.ensures in
    let under = side_under i.below h one within (omega (arith, c.if-prefix-node.false, c.if-prefix-node-2.false)) c.is_one-one.ensures in
    listed_some (whole i.parts) i.put (members_at false c.of-else-is_only.result) (members_at true c.of-else-is_only.result) (node_removed i.below h one c.of-else-is_only.result other under (at ∙ c.remove-held.ensures.removed ∙ ap (remove_key (finds p)) (sym e)) (subst (λ l. 0 < length l) (sym at) c.remove-held.ensures.some))
