-- without operations the chip is alike to the things of the applied rows
use Rattle.std.proofs.Common.{◌≡◌, ◌⊎◌, ◌∙◌, inl, inr, ℕ, List, Some, refl, sym, ap, subst}
use Rattle.table_schema.specs.Plan.{Ports}
use Rattle.table_schema.specs.declared.key.Key.{Key}
use Rattle.sai_types.specs.declared.weight.WHop.{WHop}
use Rattle.sai_types.specs.declared.thing.Thing.{Thing}
use Rattle.sai_types.specs.declared.thing.Thing.TheVariants as thing
use Rattle.sai_types.specs.Alike.{IsAlike, IsIn}
use Rattle.sai_types.specs.Made.{IsWhole}
use Rattle.sai_types.specs.Objects.{Objects}
use Rattle.switch_model.specs.Placed.{Placed as Row, bare_rows}
use Rattle.switch_model.specs.Desired.{IsThingOf}
use Rattle.chip_layout.specs.Grouped.{AreGrouped}
use Rattle.chip_layout.specs.Layout.{IsLaidOut, listed}
use Rattle.sai_types.specs.Names.{name_of}
use Rattle.chip_layout.proofs.Naming.{alike-laid}
use Rattle.row_layout.specs.Rows as owner
use Rattle.row_layout.specs.Rows.{Owner, OfRow, from, own_things}
use Rattle.row_layout.specs.Shared.{IsOf, shared_things, uses}
use Rattle.row_layout.proofs.Split.{things-split}
use Rattle.row_layout.specs.Operations.{uses_of}
use Rattle.switch_machine.specs.Flights.{MachineFlight, IsResting, IsShared, IsUser, Machine, StandsIn, own_of}
use Rattle.switch_machine.specs.Consistent.{IsUsedOrRetired, IsConsistent}
use Rattle.switch_machine.specs.Tables.{TableLaws}
use Rattle.switch_machine.proofs.Splits.{own_row_in, use_row_in}
use Rattle.switch_machine.proofs.Tabled.{in_members, member_hop}
use Rattle.switch_machine.proofs.Ordered.{group_rising}
use Rattle.switch_machine.proofs.Placing.{row_of_thing, thing_of_row}
use Rattle.switch_machine.proofs.Calling.{sort_of}

module _ (plan : Ports) (tables : TableLaws plan) (m : Machine) (sound : IsConsistent plan m) (quiet : (w : ℕ) (f : MachineFlight) → m.board.flights w ≡ Some f → ⊥) where
  pub rests : (k : Key) → IsResting m.board k
  rests k w f at is = quiet w f at

  pub whole : (k : Key) (o : Owner) (u : Thing) → IsUser plan m.board k o → IsIn u (shared_things o) → StandsIn m u
  whole k o u user h = sound.whole k o u user (λ w f at t. quiet w f at) h

  -- without operations a user is an applied row
  pub user_applied : (o : Owner) → IsUsedOrRetired plan m.board o → (k : Key) × (r : Row) × (m.board.applied k ≡ Some r) × IsIn o (uses plan k r)
  user_applied o (inl (k, inl (w, f, at, is, counts))) = absurd (quiet w f at)
  user_applied o (inl (k, inr (_, h))) = let r = use_row_in plan k (m.board.applied k) o h in (k, r.0, r.1, r.2)
  user_applied o (inr (w, f, at, h)) = absurd (quiet w f at)

  pub user_of : (k : Key) (r : Row) (o : Owner) → m.board.applied k ≡ Some r → IsIn o (uses plan k r) → IsUser plan m.board k o
  user_of k r o at h = inr (rests k, subst (λ z. IsIn o (uses_of plan k z)) (sym at) h)

  pub into_by : (u : Thing) → StandsIn m u → (o : Owner) → owner.owner_of plan (name_of u) ≡ Some o → IsShared o ⊎ ((k : Key) × (o ≡ OfRow k)) → IsThingOf plan (bare_rows m.board.applied) u
  into_by u h o of (inr (k, same)) =
      let r = own_row_in plan k (m.board.applied k) u ((sound.rest k u (rests k) (of ∙ ap Some same)).0 h) in
      thing_of_row plan m.board sound.board u k r.0 r.1 ((things-split plan k r.0).back u (inl r.2))
  into_by u h o of (inl shared) =
      let x = sound.held o u h of shared in
      let a = user_applied o x.1 in
      thing_of_row plan m.board sound.board u a.0 a.1 a.2 ((things-split plan a.0 a.1).back u (inr (o, a.3, x.0)))

  pub back_by : (u : Thing) (k : Key) (r : Row) → m.board.applied k ≡ Some r → IsOf (own_things plan k r) (uses plan k r) u → StandsIn m u
  back_by u k r at (inl h) = (sound.rest k u (rests k) (tables.own k r u (sound.board.fit k r (inl at)) h)).1 (subst (λ z. IsIn u (own_of plan k z)) (sym at) h)
  back_by u k r at (inr (o, h, in_it)) = whole k o u (user_of k r o at h) in_it

  group_of : (u : Thing) (hops : List WHop) → StandsIn m u → owner.owner_of plan (name_of u) ≡ Some (owner.Group hops) → IsIn u (shared_things (owner.Group hops)) × ((k : Key) × (r : Row) × (m.board.applied k ≡ Some r) × IsIn (owner.Group hops) (uses plan k r))
  group_of u hops h of = let x = sound.held (owner.Group hops) u h of tt in (x.0, user_applied (owner.Group hops) x.1)

  pub grouped : AreGrouped (listed m.stands)
  grouped = record {
    rising = λ i hops h. let x = (group_of (thing.Group hops) hops (i, h) refl).1 in group_rising plan x.0 x.1 (owner.Group hops) hops x.3 refl;
    have = λ i hops hop h in_it. let x = (group_of (thing.Group hops) hops (i, h) refl).1 in whole x.0 (owner.Group hops) (thing.GroupMember hops hop) (user_of x.0 x.1 (owner.Group hops) x.2 x.3) (inr (in_members hops hops hop in_it));
    only = λ i hops hop h. only_by hops hop (group_of (thing.GroupMember hops hop) hops (i, h) refl).0;
  }
    where
      only_by : (hops : List WHop) (hop : WHop) → IsIn (thing.GroupMember hops hop) (shared_things (owner.Group hops)) → IsIn hop hops
      only_by hops hop (inl e) = absurd cc
      only_by hops hop (inr h) = member_hop hops hops hop h

  pub alike-rest : (made : ℕ) (objects : Objects) → IsWhole made objects → IsLaidOut (listed m.stands) objects → IsAlike objects (IsThingOf plan (bare_rows m.board.applied))
  alike-rest made objects whole_chip laid =
      let alike = alike-laid (listed m.stands) objects laid made whole_chip grouped in
      record {
        each = λ t h. let x = alike.each t h in (x.0, x.1, (let o = sound.owned x.0 x.2 in into_by x.0 x.2 o.0 o.1 (sort_of o.0)));
        once = λ x h. let y = row_of_thing plan m.board sound.board x h in alike.once x (back_by x y.0 y.1 y.2 ((things-split plan y.0 y.1).into x y.3));
      }
