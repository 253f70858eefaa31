-- the same things on another chip, by other identifiers
use Rattle.std.proofs.Common.{◌≡◌, ◌≤◌, ℕ, List, length, arith}
use Rattle.table_schema.specs.Plan.{Ports, IsPlan}
use Rattle.sai_types.specs.declared.ids.Rid.{Rid}
use Rattle.sai_types.specs.declared.kind.Kind.{Kind}
use Rattle.sai_types.specs.declared.thing.Thing.{Thing}
use Rattle.sai_types.specs.Made.{IsWhole}
use Rattle.sai_types.specs.Objects.{Objects, used}
use Rattle.chip_layout.specs.Counted.{AreAll, IsOfKind}
use Rattle.chip_layout.specs.Layout.{IsLaidOut, listed}
use Rattle.sai_types.specs.Names.{ThingName}
use Rattle.chip_layout.proofs.Counting.{at-most-used, counted}
use Rattle.switch_machine.specs.Events.{SwitchState, IsSafe}
use Rattle.switch_machine.specs.Flights.{Machine, StandsIn}
use Rattle.switch_machine.specs.Consistent.{IsConsistent}
use Rattle.switch_machine.specs.Tables.{TableLaws}
use Rattle.switch_machine.proofs.Moving.{fit_of}
use Rattle.switch_machine.proofs.Running.{Agree, runs-same}
use Rattle.switch_machine.proofs.Tabled.{tabled}

-- with other identifiers
abbrev pub with_stands : Machine → List (Rid × Thing) → Machine
with_stands m stands = record { board = m.board; due = m.due; reserved = m.reserved; stands = stands }

abbrev pub on_chip : SwitchState → List (Rid × Thing) → ℕ → Objects → SwitchState
on_chip s stands made objects = record { machine = with_stands s.machine stands; written = s.written; to_sync = s.to_sync; made = made; objects = objects }

module _ (plan : Ports) (is : IsPlan plan) (m : Machine) (sound : IsConsistent plan m) (stands : List (Rid × Thing)) (same : Agree (StandsIn m) (StandsIn (with_stands m stands)) (λ u. Unit {0})) where
  T : TableLaws plan
  T = tabled plan is

  -- soundness is of things alone
  pub sound-renamed : IsConsistent plan (with_stands m stands)
  sound-renamed = record {
    board = sound.board;
    owned = λ u h. sound.owned u (same.back u tt h);
    rest = λ k u rests of. (λ h. (sound.rest k u rests of).0 (same.back u tt h), λ h. same.into u tt ((sound.rest k u rests of).1 h));
    runs = λ w f at. runs-same plan (tabled plan is) f (fit_of plan (tabled plan is) m sound w f at) (StandsIn m) (StandsIn (with_stands m stands)) (m.due w) (record { into = λ u c h. same.into u tt h; back = λ u c h. same.back u tt h }) (sound.runs w f at);
    present = λ k n firm h. let x = sound.present k n firm h in (x.0, same.into x.0 tt x.1, x.2);
    like = λ k u h of. sound.like k u (same.back u tt h) of;
    held = λ o u h of shared. sound.held o u (same.back u tt h) of shared;
    used = λ k o u n h of refers on shared. sound.used k o u n (same.back u tt h) of refers on shared;
    steady = λ k o u x n h of refers on shared in_it. same.into x tt (sound.steady k o u x n (same.back u tt h) of refers on shared in_it);
    whole = λ k o u user quiet h. same.into u tt (sound.whole k o u user quiet h);
    quiet = sound.quiet;
  }

module _ (plan : Ports) (is : IsPlan plan) (workers : ℕ) (capacities : List ℕ) (s : SwitchState) (kept : IsSafe plan workers capacities s) (stands : List (Rid × Thing)) (same : Agree (StandsIn s.machine) (StandsIn (with_stands s.machine stands)) (λ u. Unit {0})) (made : ℕ) (objects : Objects) (whole : IsWhole made objects) (laid : IsLaidOut (listed stands) objects) where
  fewer : (kind : Kind) → used objects kind ≤ used s.objects kind
  fewer kind = by (counted (listed stands) objects laid kind made whole)
    where
      by : ((names : List ThingName) × AreAll (listed stands) kind names × (length names ≡ used objects kind)) → used objects kind ≤ used s.objects kind
      by (names, all, count) =
          let most = at-most-used (listed s.machine.stands) s.objects kept.laid kind s.made kept.whole names all.distinct (λ n h. back n (all.sound n h)) in
          omega (arith, most, count)
        where
          back : (n : ThingName) → IsOfKind (listed stands) kind n → IsOfKind (listed s.machine.stands) kind n
          back n x = let y = same.back x.2.0 tt (x.1, x.2.1) in (x.0, y.0, (x.2.0, y.1, x.2.2))

  pub kept-renamed : IsSafe plan workers capacities (on_chip s stands made objects)
  kept-renamed = record {
    sound = sound-renamed plan is s.machine kept.sound stands same;
    whole = whole;
    laid = laid;
    places = λ kind. let less = fewer kind in let fits = kept.places kind in omega (arith, less, fits);
    synced = kept.synced;
    told = kept.told;
    covered = record { due = kept.covered.due; idle = kept.covered.idle };
    dated = kept.dated;
    good = kept.good;
  }
