-- a run with a restart: the premises can be met
use Rattle.std.proofs.Common.{◌≡◌, ◌∷◌, inl, ℕ, List, [], length, None, refl, arith}
use Rattle.table_schema.specs.Plan.{Ports}
use Rattle.std.specs.List.Sorted.{IsStrictlySortedBy}
use Rattle.sai_types.specs.declared.kind.Kind.{Kind}
use Rattle.table_schema.specs.declared.key.Key.TheVariants as key
use Rattle.chip_layout.specs.Layout.{listed}
use Rattle.sai_types.specs.Names.{ThingName}
use Rattle.sai_types.specs.declared.plan.Mode.TheVariants as mode
use Rattle.restart_laws.specs.Planned.{PlansHitless}
use Rattle.chip_layout.proofs.Shapes.{laid-none}
use Rattle.switch_machine.specs.Events.{empty_switch}
use Rattle.plan_laws.specs.Views.{AreLacking}
use Rattle.switch_model.specs.Marks.{Waiting}
use Rattle.switch_model.specs.declared.mark.Mark.{Mark}
use Rattle.switch_model.specs.declared.mark.MarkEvent.{MarkEvent}
use Rattle.switch_model.specs.declared.mark.MarkEvent.TheVariants as event
use Rattle.switch_model.specs.declared.wait.Wait.TheVariants as wait
use Rattle.warm_state.specs.declared.warm.Warm.TheVariants.{Applying, Initialized, Reconciled, Restored}
use Rattle.restart_laws.specs.Bounded.{effects_outside, listed_at_applies}
use Rattle.restart_laws.specs.Service.{AreServiceEvents, OfFinish, OfList, OfRestart, OfRestore, Service, new_service}
use Rattle.restart_laws.specs.Restored.{IsRestored}

abbrev first_service : Service
first_service = record { warm = Initialized; core = empty_switch; seen = []; left = [] }

abbrev second : Service
second = record { warm = Restored; core = empty_switch; seen = []; left = [] }

abbrev third : Service
third = record { warm = Applying; core = empty_switch; seen = []; left = [] }

abbrev last : Service
last = record { warm = Reconciled; core = empty_switch; seen = []; left = [] }

none_lacking : (kind : Kind) (names : List ThingName) → AreLacking [] [] kind names → length names ≡ 0
none_lacking kind [] x = refl
none_lacking kind (n ∷ ns) x = elim (x.each n (inl refl)).2 [ ]

nothing_planned : (capacities : List ℕ) → PlansHitless capacities 0 [] [] []
nothing_planned capacities = record {
  steps = [];
  fits = λ kind names x. let none = none_lacking kind names x in omega (arith, none);
  routers = λ on v w i j. elim i [ ];
  is_plan = record { makes = λ t h. elim h [ ]; sets = λ t h. elim h [ ]; removes = λ t h. elim h [ ]; whole = λ t h. elim h [ ]; gone = λ t h. elim h [ ]; in_order = tt };
  run = refl;
}

example_restored : (plan : Ports) (workers : ℕ) (capacities : List ℕ) → IsRestored plan workers capacities empty_switch.written empty_switch
unfolding IsStrictlySortedBy
example_restored plan workers capacities = record {
  written = empty_switch.written;
  keys = [];
  popped = record { taken = refl; keys = λ k. inl (record { row = refl; waiting = λ o. refl }) };
  none = λ k o. refl;
  all = λ k. inl refl;
  rising = tt;
  waits = [];
  pass = (refl, refl);
}

pub restarted : (plan : Ports) (workers : ℕ) (capacities : List ℕ) → AreServiceEvents plan workers capacities new_service ((None, first_service) ∷ (None, second) ∷ (None, third) ∷ (None, last) ∷ [])
unfolding example_restored
restarted plan workers capacities = (
  OfRestart first_service (record { warm = refl; core = refl }),
  (
    OfList second (record { before = refl; warm = refl; core = refl; seen = refl }),
    (
      OfRestore third (record { before = refl; warm = refl; view = empty_switch; restored = example_restored plan workers capacities; machine = refl; written = refl; to_sync = refl; made = refl; objects = refl; mode = mode.Hitless; planned = nothing_planned capacities }),
      (
        OfFinish last (record { before = refl; warm = refl; none = refl; stands = []; into = λ u h. elim h.1 [ ]; back = λ u i h. elim h [ ]; laid = laid-none (listed []) (λ i t h. h); machine = refl; written = refl; to_sync = refl; made = refl; objects = refl }),
        tt,
      ),
    ),
  ),
)

-- ---- counting by marks: five effects, a restart, an apply of four that lists two keys, and three effects more

abbrev two_waits : Waiting
two_waits = (key.Vlan 5, wait.Missing (key.Vlan 6), None) ∷ (key.Vlan 7, wait.Missing (key.Vlan 6), None) ∷ []

abbrev mark_of : ℕ → MarkEvent → Mark
mark_of n e = record { taken = 0; effects = n; event = e }

abbrev some_marks : List Mark
some_marks = mark_of 5 (event.Settled [] 1) ∷ mark_of 5 event.Restarted ∷ mark_of 5 (event.ApplyBegan mode.Hitless two_waits) ∷ mark_of 9 event.ApplyEnded ∷ []

eight_outside : effects_outside None some_marks 12 ≡ 8
eight_outside = refl

two_listed : listed_at_applies some_marks ≡ 2
two_listed = refl

-- an apply that goes on makes no effect outside
none_more : effects_outside None (mark_of 5 (event.ApplyBegan mode.Hitless []) ∷ []) 9 ≡ 5
none_more = refl
