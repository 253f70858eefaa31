-- the things of a machine without operations are a view that a plan can lead to
use Rattle.std.proofs.Common.{◌≡◌, ◌⊎◌, ◌∷◌, ◌∙◌, inl, inr, ℕ, List, [], Some, refl, sym, ap, subst}
use Rattle.table_schema.specs.Plan.{Ports, IsPlan}
use Rattle.table_schema.specs.declared.key.Key.{Key}
use Rattle.sai_types.specs.declared.ids.Rid.{Rid}
use Rattle.sai_types.specs.declared.thing.Thing.{Thing}
use Rattle.sai_types.specs.declared.thing.Thing.TheVariants as thing
use Rattle.sai_types.specs.Alike.{IsIn}
use Rattle.sai_types.specs.Names.{ThingName, Refers, name_of}
use Rattle.switch_model.specs.Placed.{Placed as Row}
use Rattle.row_layout.specs.Rows.{Owner, OfRow, own_things}
use Rattle.row_layout.specs.Shared.{shared_things, uses}
use Rattle.switch_machine.specs.Events.{SwitchState, IsSafe, IsQuiet}
use Rattle.switch_machine.specs.Flights.{Fits, HasName, IsOwnedBy, IsShared, StandsIn, own_of}
use Rattle.switch_machine.specs.Tables.{ComesBefore, Orders, IsNamed, TableLaws}
use Rattle.switch_machine.specs.Consistent.{IsConsistent}
use Rattle.switch_machine.proofs.Calling.{sort_of}
use Rattle.switch_machine.proofs.Ordered.{ordered}
use Rattle.switch_machine.proofs.Resting.{grouped, rests, user_applied, user_of, whole}
use Rattle.switch_machine.proofs.Splits.{own_row_in}
use Rattle.switch_machine.proofs.Tabled.{tabled}
use Rattle.plan_laws.specs.Applied.{IsView}
use Rattle.restart_laws.specs.Restored.{only_things}
use Rattle.restart_laws.proofs.Bodies.{IsPlannedThing, own-planned, shared-planned}

pub in-things : (xs : List (Rid × Thing)) (i : Rid) (t : Thing) → IsIn (i, t) xs → IsIn t (only_things xs)
in-things [] i t h = elim h [ ]
in-things (x ∷ xs) i t (inl e) = inl (ap (λ (z : Rid × Thing). z.1) e)
in-things (x ∷ xs) i t (inr h) = inr (in-things xs i t h)

pub things-in : (xs : List (Rid × Thing)) (t : Thing) → IsIn t (only_things xs) → (i : Rid) × IsIn (i, t) xs
things-in [] t h = elim h [ ]
things-in (x ∷ xs) t (inl e) = (x.0, inl (ap (λ (z : Thing). (x.0, z)) e))
things-in (x ∷ xs) t (inr h) = let y = things-in xs t h in (y.0, inr y.1)

before_there : (n : ThingName) (t : Thing) (ts : List Thing) → ComesBefore n t ts → (u : Thing) × IsIn u ts × (name_of u ≡ n)
before_there n t [] h = elim h [ ]
before_there n t (x ∷ xs) (inl h) = (x, inl refl, h.0)
before_there n t (x ∷ xs) (inr h) = let y = before_there n t xs h in (y.0, inr y.1, y.2)

module _ (plan : Ports) (is : IsPlan plan) (workers : ℕ) (capacities : List ℕ) (s : SwitchState) (kept : IsSafe plan workers capacities s) (quiet : IsQuiet s) where
  abbrev T : TableLaws plan
  T = tabled plan is

  abbrev O : Orders plan
  O = ordered plan is

  abbrev pub new : List Thing
  new = only_things s.machine.stands

  sound : IsConsistent plan s.machine
  sound = kept.sound

  stands_new : (t : Thing) → StandsIn s.machine t → IsIn t new
  stands_new t h = in-things s.machine.stands h.0 t h.1

  new_stands : (t : Thing) → IsIn t new → StandsIn s.machine t
  new_stands t h = things-in s.machine.stands t h

  fit : (k : Key) (r : Row) → s.machine.board.applied k ≡ Some r → Fits plan k r
  fit k r at = sound.board.fit k r (inl at)

  -- a thing that stands is of an applied row, or of what one shares
  own_row : (k : Key) (t : Thing) → StandsIn s.machine t → IsOwnedBy plan (name_of t) (OfRow k) → (r : Row) × (s.machine.board.applied k ≡ Some r) × IsIn t (own_things plan k r)
  own_row k t h of = own_row_in plan k (s.machine.board.applied k) t ((sound.rest k t (rests plan T s.machine sound quiet k) of).0 h)

  pub thing-planned : (t : Thing) → IsIn t new → IsPlannedThing plan t
  thing-planned t i = by (sound.owned t h).0 (sound.owned t h).1 (sort_of (sound.owned t h).0)
    where
      h : StandsIn s.machine t
      h = new_stands t i

      by : (o : Owner) → IsOwnedBy plan (name_of t) o → IsShared o ⊎ ((k : Key) × (o ≡ OfRow k)) → IsPlannedThing plan t
      by o of (inl shared) = shared-planned plan T o t (sound.held o t h of shared).0
      by o of (inr (k, same)) = let r = own_row k t h (of ∙ ap Some same) in own-planned plan T k r.0 t (fit k r.0 r.1) r.2

  named_by : (k : Key) (r : Row) (n : ThingName) → s.machine.board.applied k ≡ Some r → IsNamed plan k r n → HasName (StandsIn s.machine) n
  named_by k r n at x = sound.present x.by n (sound.board.named k x.by r (inl at) x.named) x.own

  refers_by : (t : Thing) (n : ThingName) → StandsIn s.machine t → Refers t n → HasName (StandsIn s.machine) n
  refers_by t n h refers = by (sound.owned t h).0 (sound.owned t h).1 (sort_of (sound.owned t h).0)
    where
      own : (k : Key) (r : Row) → s.machine.board.applied k ≡ Some r → IsIn t (own_things plan k r) → IsNamed plan k r n ⊎ (IsOwnedBy plan n (OfRow k) ⊎ ((o : Owner) × IsOwnedBy plan n o × IsIn o (uses plan k r))) → HasName (StandsIn s.machine) n
      own k r at i (inl named) = named_by k r n at named
      own k r at i (inr (inl of)) =
          let x = before_there n t (own_things plan k r) (O.own_before k r t n (fit k r at) i refers of) in
          (x.0, (sound.rest k x.0 (rests plan T s.machine sound quiet k) (T.own k r x.0 (fit k r at) x.1)).1 (subst (λ z. IsIn x.0 (own_of plan k z)) (sym at) x.1), x.2)
      own k r at i (inr (inr (o, of, used))) =
          let x = O.shared_has k r t n o (fit k r at) i refers used of in
          (x.0, whole plan T s.machine sound quiet k o x.0 (user_of plan T s.machine sound quiet k r o at used) x.1, x.2)

      share : (o : Owner) (k : Key) (r : Row) → s.machine.board.applied k ≡ Some r → IsIn o (uses plan k r) → IsIn t (shared_things o) → IsNamed plan k r n ⊎ IsOwnedBy plan n o → HasName (StandsIn s.machine) n
      share o k r at used i (inl named) = named_by k r n at named
      share o k r at used i (inr of) =
          let x = before_there n t (shared_things o) (O.shared_before k r o t n (fit k r at) used i refers of) in
          (x.0, whole plan T s.machine sound quiet k o x.0 (user_of plan T s.machine sound quiet k r o at used) x.1, x.2)

      by : (o : Owner) → IsOwnedBy plan (name_of t) o → IsShared o ⊎ ((k : Key) × (o ≡ OfRow k)) → HasName (StandsIn s.machine) n
      by o of (inr (k, same)) = let r = own_row k t h (of ∙ ap Some same) in own k r.0 r.1 r.2 (T.own_refers k r.0 t n (fit k r.0 r.1) r.2 refers)
      by o of (inl shared) =
          let x = sound.held o t h of shared in
          let a = user_applied plan T s.machine sound quiet o x.1 in
          share o a.0 a.1 a.2 a.3 x.0 (T.shared_refers a.0 a.1 o t n (fit a.0 a.1 a.2) a.3 x.0 refers)

  -- the things are named apart, refer to each other, and their groups are whole
  pub view-is : IsView new
  view-is = let g = grouped plan T s.machine sound quiet in record {
    named = record {
      one = λ t u i j e. let x = new_stands t i in let y = new_stands u j in (kept.laid.one x.0 y.0 t u x.1 y.1 e).1;
      proper = λ v p g i. thing-planned (thing.Route v p g) i;
    };
    within = record { refers = λ t n i r. let x = refers_by t n (new_stands t i) r in (x.0, stands_new x.0 x.1, x.2) };
    grouped = record {
      rising = λ hops i. let x = new_stands (thing.Group hops) i in g.rising x.0 hops x.1;
      have = λ hops hop i h. let x = new_stands (thing.Group hops) i in stands_new (thing.GroupMember hops hop) (g.have x.0 hops hop x.1 h);
      only = λ hops hop i. let x = new_stands (thing.GroupMember hops hop) i in g.only x.0 hops hop x.1;
    };
  }
