-- the places for a group that is built and for its route
use Rattle.sai_types.specs.Kinds.{all_kinds}
use Rattle.std.proofs.Common.{◌≡◌, ◌+◌, ◌==◌, ℕ, true, false, cond, List, [], ◌∷◌, map, length, refl, ap, ap₂, ◌∙◌, arith}
use Rattle.sai_types.specs.declared.kind.Kind.{Kind}
use Rattle.sai_types.specs.declared.kind.Kind.TheVariants as kind
use Rattle.sai_types.specs.declared.weight.WHop.{WHop}
use Rattle.sai_types.specs.Objects.{level}
use Rattle.switch_model.specs.Things.{members_of}
use Rattle.row_layout.specs.Operations.{Change, make_all}
use Rattle.row_layout.specs.Rows.{Group}
use Rattle.row_layout.specs.Shared.{shared_things}
use Rattle.switch_machine.specs.Places.{makes}
use Rattle.orch_flight.specs.Needing.{places_for}

-- the members make an object each of their kind, and none of any other
makes_members : (k : Kind) (all hops : List WHop) (rest : List Change) → makes k (make_all (members_of all hops) rest) ≡ cond (level kind.GroupMember == level k) (length hops) 0 + makes k rest
makes_members k all [] rest = elim (level kind.GroupMember == level k) as (λ b. makes k rest ≡ cond b 0 0 + makes k rest) [ true ↦ omega arith | false ↦ omega arith ]
makes_members k all (hop ∷ hops) rest =
    let others = makes_members k all hops rest in
    ap (λ m. cond (level kind.GroupMember == level k) 1 0 + m) others
    ∙ (elim (level kind.GroupMember == level k) as (λ b. cond b 1 0 + (cond b (length hops) 0 + makes k rest) ≡ cond b (length (hop ∷ hops)) 0 + makes k rest) [ true ↦ omega arith | false ↦ omega arith ])

mapped_as : (f g : Kind → ℕ) → ((k : Kind) → f k ≡ g k) → (ks : List Kind) → map f ks ≡ map g ks
mapped_as f g h [] = refl
mapped_as f g h (k ∷ ks) = ap₂ (λ n ns. n ∷ ns) (h k) (mapped_as f g h ks)

-- those of a group before other changes
pub places-built : (hops : List WHop) (rest : List Change) → places_for (make_all (shared_things (Group hops)) rest) ≡ map (λ k. cond (level kind.Group == level k) 1 0 + (cond (level kind.GroupMember == level k) (length hops) 0 + makes k rest)) all_kinds
places-built hops rest = mapped_as (λ k. makes k (make_all (shared_things (Group hops)) rest)) (λ k. cond (level kind.Group == level k) 1 0 + (cond (level kind.GroupMember == level k) (length hops) 0 + makes k rest)) (λ k. ap (λ m. cond (level kind.Group == level k) 1 0 + m) (makes_members k hops hops rest)) all_kinds
