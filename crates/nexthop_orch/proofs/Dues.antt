-- the changes of a group that are left after so many
use Rattle.std.proofs.Common.{◌≡◌, ◌≤◌, ◌<◌, ◌-◌, ℕ, zero, suc, Bool, true, false, List, [], ◌∷◌, ◌++◌, length, drop, Some, slice_get, refl, sym, ap, subst, ◌∙◌, arith}
use Rattle.std.proofs.lemmas.List.{drop_all, length-drop}
use Rattle.std.proofs.lemmas.Option.{none-some, same_Some}
use Rattle.sai_types.specs.declared.weight.WHop.{WHop}
use Rattle.sai_types.specs.declared.thing.Thing.{Thing}
use Rattle.sai_types.specs.declared.thing.Thing.TheVariants as thing
use Rattle.sai_types.specs.Names as thing_name
use Rattle.sai_types.specs.Names.{name_of}
use Rattle.switch_model.specs.Things.{members_of}
use Rattle.row_layout.specs.Operations.{Make, Take, make_all, take_all}
use Rattle.orch_flight.specs.Grouping.{first_group_due}

-- ---- how many there are

length-made : (all hops : List WHop) → length (make_all (members_of all hops) []) ≡ length hops
length-made all [] = refl
length-made all (hop ∷ hops) = ap suc (length-made all hops)

length-taken : (all hops : List WHop) (t : Thing) → length (take_all (members_of all hops ++ t ∷ []) []) ≡ suc (length hops)
length-taken all [] t = refl
length-taken all (hop ∷ hops) t = ap suc (length-taken all hops t)

length-due : (hops : List WHop) (builds : Bool) → length (first_group_due hops builds) ≡ suc (length hops)
length-due hops true = ap suc (length-made hops hops)
length-due hops false = length-taken hops hops (thing.Group hops)

pub due-over : (hops : List WHop) (builds : Bool) (done : ℕ) → length hops < done → drop done (first_group_due hops builds) ≡ []
due-over hops builds done past = drop_all done (first_group_due hops builds) (subst (λ n. n ≤ done) (sym (length-due hops builds)) past)

pub over-due : (hops : List WHop) (builds : Bool) (done : ℕ) → drop done (first_group_due hops builds) ≡ [] → length hops < done
over-due hops builds done none =
    let left : 0 ≡ length (first_group_due hops builds) - done = sym (ap length none) ∙ length-drop done (first_group_due hops builds) in
    let all = length-due hops builds in
    omega (arith, left, all)

-- ---- which is next

pub drop-step : {X : Type 0} (n : ℕ) (xs : List X) → (drop n xs ≡ [] → ⊥) → (x : X) × (drop n xs ≡ x ∷ drop (suc n) xs)
drop-step zero [] some = absurd (some refl)
drop-step (suc n) [] some = absurd (some refl)
drop-step zero (x ∷ xs) some = (x, refl)
drop-step (suc n) (x ∷ xs) some = drop-step n xs some

-- a change is due only while there are any
pub still-due : (hops : List WHop) (builds : Bool) (done : ℕ) → (drop done (first_group_due hops builds) ≡ [] → ⊥) → done < suc (length hops)
still-due hops builds done some =
    let is = (drop-step done (first_group_due hops builds) some).1 in
    let left = ap length is in
    let sum = length-drop done (first_group_due hops builds) in
    let all = length-due hops builds in
    omega (arith, left, sum, all)

pub member-made : (all hops : List WHop) (i : ℕ) (hop : WHop) → slice_get hops i ≡ Some hop → drop i (make_all (members_of all hops) []) ≡ Make (thing.GroupMember all hop) ∷ drop (suc i) (make_all (members_of all hops) [])
member-made all [] i hop is = absurd (none-some hop is)
member-made all (h ∷ hs) zero hop is = ap (λ z. Make (thing.GroupMember all z) ∷ make_all (members_of all hs) []) (same_Some h hop is)
member-made all (h ∷ hs) (suc i) hop is = member-made all hs i hop is

pub member-taken : (all hops : List WHop) (t : Thing) (i : ℕ) (hop : WHop) → slice_get hops i ≡ Some hop → drop i (take_all (members_of all hops ++ t ∷ []) []) ≡ Take (thing_name.GroupMember all hop) ∷ drop (suc i) (take_all (members_of all hops ++ t ∷ []) [])
member-taken all [] t i hop is = absurd (none-some hop is)
member-taken all (h ∷ hs) t zero hop is = ap (λ z. Take (thing_name.GroupMember all z) ∷ take_all (members_of all hs ++ t ∷ []) []) (same_Some h hop is)
member-taken all (h ∷ hs) t (suc i) hop is = member-taken all hs t i hop is

pub last-taken : (all hops : List WHop) (t : Thing) → drop (length hops) (take_all (members_of all hops ++ t ∷ []) []) ≡ Take (name_of t) ∷ []
last-taken all [] t = refl
last-taken all (hop ∷ hops) t = last-taken all hops t
