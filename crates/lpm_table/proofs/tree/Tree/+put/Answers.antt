use Rattle.std.proofs.Common.{◌≡◌, ◌<◌, true, false, not, length, sym, ap, ◌∙◌, subst, arith, rules}
use Rattle.std.specs.BTreeSet.{insert_key}
use Rattle.swss_types.specs.AddressOrder.{prefix_cmp}
use Rattle.lpm_table.specs.Parts.{whole}
use Rattle.lpm_table.specs.Trees.{AreOf, members, members_at}
use Rattle.lpm_table.proofs.Steps.{AtNode, at_apart, at_free, at_out, at_put_self, at_same, at_within, err_weaker, none_members, ok_weaker}
use Rattle.lpm_table.proofs.Sides.{node_result, side_of, side_put, side_same, side_shorter, side_under, taken}
use Rattle.lpm_table.proofs.tree.Tree.+put.Goals as goal
use Rattle.lpm_table.proofs.tree.Tree.+put.Goals.{then-prefix-self-via-then-prefix-self, then-prefix-self-via-else-prefix-self+then-not-agree}

pub put_apart-requires : goal.put_apart-requires
put_apart-requires t c =
    let i = c.self.inside in
    let p = whole c.args.prefix.now in
    let h : AtNode (whole i.parts) i.put (members_at false i.below) (members_at true i.below) c.args.self.now p c.width.result = record { node = c.self.invariant; is = c.self.view_is; proper = c.requires.proper; of = c.requires.family; wide = c.width.ensures } in
    elim c.then-prefix-self.branch [
      | then-prefix-self-via-then-prefix-self w ↦ at_apart h (λ long. absurd (omega (arith, long, w.if-prefix-self.true)))
      | then-prefix-self-via-else-prefix-self+then-not-agree w ↦ at_apart h (λ long. at_out h w.if-not-agree.ensures)
    ]

pub returns-then-prefix-self-2-clause-ok : goal.returns-then-prefix-self-2-clause-ok
returns-then-prefix-self-2-clause-ok t c =
    let i = c.self.inside in
    let p = whole c.args.prefix.now in
    let h : AtNode (whole i.parts) i.put (members_at false i.below) (members_at true i.below) c.args.self.now p c.width.result = record { node = c.self.invariant; is = c.self.view_is; proper = c.requires.proper; of = c.requires.family; wide = c.width.ensures } in
    let within = at_within h (omega (arith, c.if-prefix-self.false)) c.if-not-agree.ensures in
    at_put_self h (at_same h within (sym c.if-prefix-self-2.true))

pub overflow_sub-rest-2 : goal.overflow_sub-rest-2
overflow_sub-rest-2 t c =
    let i = c.self.inside in
    let p = whole c.args.prefix.now in
    let h : AtNode (whole i.parts) i.put (members_at false i.below) (members_at true i.below) c.args.self.now p c.width.result = record { node = c.self.invariant; is = c.self.view_is; proper = c.requires.proper; of = c.requires.family; wide = c.width.ensures } in
    let within = at_within h (omega (arith, c.if-prefix-self.false)) c.if-not-agree.ensures in
    at_free h within (omega (arith, c.if-prefix-self.false, c.if-prefix-self-2.false))

pub put-result-requires : goal.put-result-requires
put-result-requires t c =
    let i = c.self.inside in
    let p = whole c.args.prefix.now in
    let h : AtNode (whole i.parts) i.put (members_at false i.below) (members_at true i.below) c.args.self.now p c.width.result = record { node = c.self.invariant; is = c.self.view_is; proper = c.requires.proper; of = c.requires.family; wide = c.width.ensures } in
    let one = c.is_one-one.result in
    let e : members_at one i.below ≡ c.deref_mut.result.now = sym (taken one i.below c.replace.result c.split-side.result.0 c.split-side.ensures.at c.replace.ensures.value) ∙ ap members c.in-Some.is ∙ sym c.deref_mut.ensures.value in
    let less : length c.deref_mut.result.now < length c.args.self.now = subst (λ l. length l < length c.args.self.now) e (side_shorter i.below h one) in
    (search rules, (c.requires.proper, subst (AreOf c.args.prefix.now.family) e (side_of i.below h one)))

pub invariant_of-self-in-Some : goal.invariant_of-self-in-Some
invariant_of-self-in-Some t c =
    let i = c.self.inside in
    let p = whole c.args.prefix.now in
    let h : AtNode (whole i.parts) i.put (members_at false i.below) (members_at true i.below) c.args.self.now p c.width.result = record { node = c.self.invariant; is = c.self.view_is; proper = c.requires.proper; of = c.requires.family; wide = c.width.ensures } in
    let one = c.is_one-one.result in
    let e : members_at one i.below ≡ c.deref_mut.result.now = sym (taken one i.below c.replace.result c.split-side.result.0 c.split-side.ensures.at c.replace.ensures.value) ∙ ap members c.in-Some.is ∙ sym c.deref_mut.ensures.value in
    let at : members_at one c.of.result ≡ c.put-result.new.self = ap members c.of.ensures.at in
    let other : members_at (not one) c.of.result ≡ members_at (not one) i.below = ap members c.of.ensures.other ∙ taken (not one) i.below c.replace.result c.split-side.result.1 c.split-side.ensures.other c.replace.ensures.value in
    let within = at_within h (omega (arith, c.if-prefix-self.false)) c.if-not-agree.ensures in
    let under = side_under i.below h one within (omega (arith, c.if-prefix-self.false, c.if-prefix-self-2.false)) c.is_one-one.ensures in
    node_result i.below h c.put-result.result one c.of.result other under (ok_weaker c.put-result.result (λ k. at ∙ k ∙ ap (λ l. insert_key prefix_cmp l p) (sym e)) c.put-result.ensures.ok) (err_weaker c.put-result.result (λ k. at ∙ k ∙ sym e) c.put-result.ensures.err)

pub returns-in-Some-clause-ok : goal.returns-in-Some-clause-ok
returns-in-Some-clause-ok t c =
    let i = c.self.inside in
    let p = whole c.args.prefix.now in
    let h : AtNode (whole i.parts) i.put (members_at false i.below) (members_at true i.below) c.args.self.now p c.width.result = record { node = c.self.invariant; is = c.self.view_is; proper = c.requires.proper; of = c.requires.family; wide = c.width.ensures } in
    let one = c.is_one-one.result in
    let e : members_at one i.below ≡ c.deref_mut.result.now = sym (taken one i.below c.replace.result c.split-side.result.0 c.split-side.ensures.at c.replace.ensures.value) ∙ ap members c.in-Some.is ∙ sym c.deref_mut.ensures.value in
    let at : members_at one c.of.result ≡ c.put-result.new.self = ap members c.of.ensures.at in
    let other : members_at (not one) c.of.result ≡ members_at (not one) i.below = ap members c.of.ensures.other ∙ taken (not one) i.below c.replace.result c.split-side.result.1 c.split-side.ensures.other c.replace.ensures.value in
    let within = at_within h (omega (arith, c.if-prefix-self.false)) c.if-not-agree.ensures in
    let under = side_under i.below h one within (omega (arith, c.if-prefix-self.false, c.if-prefix-self-2.false)) c.is_one-one.ensures in
    ok_weaker c.put-result.result (λ k. side_put i.below h one c.of.result other under (at ∙ k ∙ ap (λ l. insert_key prefix_cmp l p) (sym e))) c.put-result.ensures.ok

pub returns-in-Some-clause-err : goal.returns-in-Some-clause-err
returns-in-Some-clause-err t c =
    let i = c.self.inside in
    let p = whole c.args.prefix.now in
    let h : AtNode (whole i.parts) i.put (members_at false i.below) (members_at true i.below) c.args.self.now p c.width.result = record { node = c.self.invariant; is = c.self.view_is; proper = c.requires.proper; of = c.requires.family; wide = c.width.ensures } in
    let one = c.is_one-one.result in
    let e : members_at one i.below ≡ c.deref_mut.result.now = sym (taken one i.below c.replace.result c.split-side.result.0 c.split-side.ensures.at c.replace.ensures.value) ∙ ap members c.in-Some.is ∙ sym c.deref_mut.ensures.value in
    let at : members_at one c.of.result ≡ c.put-result.new.self = ap members c.of.ensures.at in
    let other : members_at (not one) c.of.result ≡ members_at (not one) i.below = ap members c.of.ensures.other ∙ taken (not one) i.below c.replace.result c.split-side.result.1 c.split-side.ensures.other c.replace.ensures.value in
    err_weaker c.put-result.result (λ k. side_same i.below h one c.of.result other (at ∙ k ∙ sym e)) c.put-result.ensures.err

pub invariant_of-self-2 : goal.invariant_of-self-2
invariant_of-self-2 t c =
    let i = c.self.inside in
    let p = whole c.args.prefix.now in
    let h : AtNode (whole i.parts) i.put (members_at false i.below) (members_at true i.below) c.args.self.now p c.width.result = record { node = c.self.invariant; is = c.self.view_is; proper = c.requires.proper; of = c.requires.family; wide = c.width.ensures } in
    let one = c.is_one-one.result in
    let e = sym (taken one i.below c.replace.result c.split-side.result.0 c.split-side.ensures.at c.replace.ensures.value) ∙ none_members c.split-side.result.0 c.in_default.not-Some in
    let at : members_at one c.of-2.result ≡ members c.planted-side.result.0 = ap members c.of-2.ensures.at in
    let other : members_at (not one) c.of-2.result ≡ members_at (not one) i.below = ap members c.of-2.ensures.other ∙ taken (not one) i.below c.replace.result c.split-side.result.1 c.split-side.ensures.other c.replace.ensures.value in
    let within = at_within h (omega (arith, c.if-prefix-self.false)) c.if-not-agree.ensures in
    let under = side_under i.below h one within (omega (arith, c.if-prefix-self.false, c.if-prefix-self-2.false)) c.is_one-one.ensures in
    node_result i.below h c.planted-side.result.1 one c.of-2.result other under (ok_weaker c.planted-side.result.1 (λ k. at ∙ k ∙ ap (λ l. insert_key prefix_cmp l p) (sym e)) c.planted-side.ensures.ok) (err_weaker c.planted-side.result.1 (λ k. at ∙ k ∙ sym e) c.planted-side.ensures.err)

pub returns-clause-ok : goal.returns-clause-ok
returns-clause-ok t c =
    let i = c.self.inside in
    let p = whole c.args.prefix.now in
    let h : AtNode (whole i.parts) i.put (members_at false i.below) (members_at true i.below) c.args.self.now p c.width.result = record { node = c.self.invariant; is = c.self.view_is; proper = c.requires.proper; of = c.requires.family; wide = c.width.ensures } in
    let one = c.is_one-one.result in
    let e = sym (taken one i.below c.replace.result c.split-side.result.0 c.split-side.ensures.at c.replace.ensures.value) ∙ none_members c.split-side.result.0 c.in_default.not-Some in
    let at : members_at one c.of-2.result ≡ members c.planted-side.result.0 = ap members c.of-2.ensures.at in
    let other : members_at (not one) c.of-2.result ≡ members_at (not one) i.below = ap members c.of-2.ensures.other ∙ taken (not one) i.below c.replace.result c.split-side.result.1 c.split-side.ensures.other c.replace.ensures.value in
    let within = at_within h (omega (arith, c.if-prefix-self.false)) c.if-not-agree.ensures in
    let under = side_under i.below h one within (omega (arith, c.if-prefix-self.false, c.if-prefix-self-2.false)) c.is_one-one.ensures in
    ok_weaker c.planted-side.result.1 (λ k. side_put i.below h one c.of-2.result other under (at ∙ k ∙ ap (λ l. insert_key prefix_cmp l p) (sym e))) c.planted-side.ensures.ok

pub returns-clause-err : goal.returns-clause-err
returns-clause-err t c =
    let i = c.self.inside in
    let p = whole c.args.prefix.now in
    let h : AtNode (whole i.parts) i.put (members_at false i.below) (members_at true i.below) c.args.self.now p c.width.result = record { node = c.self.invariant; is = c.self.view_is; proper = c.requires.proper; of = c.requires.family; wide = c.width.ensures } in
    let one = c.is_one-one.result in
    let e = sym (taken one i.below c.replace.result c.split-side.result.0 c.split-side.ensures.at c.replace.ensures.value) ∙ none_members c.split-side.result.0 c.in_default.not-Some in
    let at : members_at one c.of-2.result ≡ members c.planted-side.result.0 = ap members c.of-2.ensures.at in
    let other : members_at (not one) c.of-2.result ≡ members_at (not one) i.below = ap members c.of-2.ensures.other ∙ taken (not one) i.below c.replace.result c.split-side.result.1 c.split-side.ensures.other c.replace.ensures.value in
    err_weaker c.planted-side.result.1 (λ k. side_same i.below h one c.of-2.result other (at ∙ k ∙ sym e)) c.planted-side.ensures.err
