-- what holds of runs of events, and that an empty view is safe
use Rattle.std.proofs.Common.{◌≡◌, ◌⊎◌, ◌+◌, ◌∷◌, inl, inr, ℕ, zero, suc, List, [], Option, None, Some, refl, sym, ap, subst, arith}
use Rattle.table_schema.specs.Plan.{Ports, IsPlan}
use Rattle.table_schema.specs.declared.key.Key.{Key}
use Rattle.sai_types.specs.declared.ids.Rid.{Rid}
use Rattle.sai_types.specs.declared.kind.Kind.{Kind}
use Rattle.sai_types.specs.declared.body.Call.{Call}
use Rattle.sai_types.specs.After.{after_call}
use Rattle.sai_types.specs.Alike.{IsAlike, IsIn}
use Rattle.sai_types.specs.Made.{AreLegal}
use Rattle.sai_types.proofs.Whole.{whole-empty}
use Rattle.switch_model.specs.Placed.{Placed as Row, bare_rows}
use Rattle.switch_model.specs.Desired.{IsThingOf}
use Rattle.switch_model.specs.Good.{good_row}
use Rattle.switch_machine.specs.Written.{HasWrittenRows, IsTold, Written, good_of}
use Rattle.chip_layout.specs.Layout.{listed}
use Rattle.chip_layout.proofs.Shapes.{laid-none}
use Rattle.row_layout.specs.Rows.{Owner}
use Rattle.switch_machine.specs.Flights.{IsRow, IsUser}
use Rattle.switch_machine.specs.Places.{sum_below}
use Rattle.switch_machine.specs.Consistent.{IsCurrent}
use Rattle.switch_machine.specs.Tables.{TableLaws}
use Rattle.switch_machine.specs.Events.{SwitchState, IsEvent, IsSafe, IsQuiet, AreEvents, with_made_call, calls_of, empty_machine, empty_switch, fresh_view, no_writes, after_events}
use Rattle.switch_machine.proofs.Resting.{alike-rest}
use Rattle.switch_machine.proofs.Kept.{kept-event, legal-call}
use Rattle.switch_machine.proofs.Tabled.{tabled}

module _ (plan : Ports) (is : IsPlan plan) (workers : ℕ) (capacities : List ℕ) where
  abbrev T : TableLaws plan
  T = tabled plan is

  -- ---- runs

  pub kept-run : (s : SwitchState) (es : List (Option (Call Rid) × SwitchState)) → IsSafe plan workers capacities s → AreEvents plan workers capacities s es → IsSafe plan workers capacities (after_events s es)
  kept-run s [] kept run = kept
  kept-run s (e ∷ es) kept run = kept-run e.1 es (kept-event plan is workers capacities s e.1 e.0 kept run.0) run.1

  pub legal_event : (s t : SwitchState) (c : Option (Call Rid)) (calls : List (Call Rid)) → IsSafe plan workers capacities s → IsEvent plan workers capacities s c t → AreLegal capacities t.made t.objects calls → AreLegal capacities s.made s.objects (with_made_call c calls)
  legal_event s t None calls kept (inl x) h = subst (λ z. AreLegal capacities z s.objects calls) x.made (subst (λ z. AreLegal capacities t.made z calls) x.objects h)
  legal_event s t None calls kept (inr (inl x)) h = subst (λ z. AreLegal capacities z s.objects calls) x.made (subst (λ z. AreLegal capacities t.made z calls) x.objects h)
  legal_event s t None calls kept (inr (inr (inl x))) h = subst (λ z. AreLegal capacities z s.objects calls) x.made (subst (λ z. AreLegal capacities t.made z calls) x.objects h)
  legal_event s t None calls kept (inr (inr (inr x))) h = subst (λ z. AreLegal capacities z s.objects calls) x.made (subst (λ z. AreLegal capacities t.made z calls) x.objects h)
  legal_event s t (Some call) calls kept x h = (legal-call plan is workers capacities s kept call x.next, subst (λ z. AreLegal capacities z (after_call (s.made + 1) s.objects call) calls) x.made (subst (λ z. AreLegal capacities t.made z calls) x.objects h))

  -- each call of a run is legal
  pub legal-run : (s : SwitchState) (es : List (Option (Call Rid) × SwitchState)) → IsSafe plan workers capacities s → AreEvents plan workers capacities s es → AreLegal capacities s.made s.objects (calls_of es)
  legal-run s [] kept run = tt
  legal-run s (e ∷ es) kept run = legal_event s e.1 e.0 (calls_of es) kept run.0 (legal-run e.1 es (kept-event plan is workers capacities s e.1 e.0 kept run.0) run.1)

  -- without operations the chip is alike to the things of the applied rows
  pub alike-quiet : (s : SwitchState) → IsSafe plan workers capacities s → IsQuiet s → IsAlike s.objects (IsThingOf plan (bare_rows s.machine.board.applied))
  alike-quiet s kept quiet = alike-rest plan T s.machine kept.sound quiet s.made s.objects kept.whole kept.laid

  -- and a key that is not to sync has its good row
  pub good-quiet : (s : SwitchState) → IsSafe plan workers capacities s → IsQuiet s → (k : Key) → (IsIn k s.to_sync → ⊥) → bare_rows s.machine.board.applied k ≡ good_of plan s.written k
  good-quiet s kept quiet k none = by (kept.synced k)
    where
      by : IsIn k s.to_sync ⊎ IsCurrent s.machine.board (good_of plan s.written) k → bare_rows s.machine.board.applied k ≡ good_of plan s.written k
      by (inl h) = absurd (none h)
      by (inr (inl h)) = h.1
      by (inr (inr (w, f, at, is, that))) = absurd (quiet w f at)

  -- an empty view is safe, whatever was written, where each key with a row is to sync
  pub safe-fresh : (written : Written) (keys : List Key) → IsTold written → HasWrittenRows written → ((k : Key) → (written.rows k ≡ None) ⊎ IsIn k keys) → IsSafe plan workers capacities (fresh_view written keys)
  safe-fresh written keys told dated all = record {
    sound = record {
      board = record {
        one = λ w v f g at there same. absurd cc;
        fit = λ k r row. no_row k r row;
        named = λ k p r row h. no_row k r row;
        goes = λ w f at. absurd cc;
        inside = λ n ip len v w is at. absurd cc;
        leaves = λ w f o at h. absurd cc;
        left = λ w f o at h. absurd cc;
        unused = λ w f k o at h user. cc;
        once = λ w v f g o at there x y. absurd cc;
      };
      owned = λ u h. elim h.1 [ ];
      rest = λ k u rests of. (λ h. elim h.1 [ ], λ h. elim h [ ]);
      runs = λ w f at. absurd cc;
      present = λ k n firm h. let x = firm.applied in absurd cc;
      like = λ k u h of. elim h.1 [ ];
      held = λ o u h of shared. elim h.1 [ ];
      used = λ k o u n h of refers is shared. elim h.1 [ ];
      steady = λ k o u x n h of refers is shared in_it. elim h.1 [ ];
      whole = λ k o u user quiet h. no_user k o user;
      quiet = λ w f k o at t user. absurd cc;
    };
    whole = whole-empty;
    laid = laid-none (listed []) (λ i t h. h);
    places = λ kind. omega (arith, none_due kind workers);
    synced = λ k. synced k (all k);
    told = told;
    covered = record { due = λ w none. refl; idle = λ w none. refl };
    dated = dated;
    good = λ k r row. no_row k r row;
  }
    where
      synced : (k : Key) → (written.rows k ≡ None) ⊎ IsIn k keys → IsIn k keys ⊎ IsCurrent empty_machine.board (good_of plan written) k
      synced k (inl none) = inr (inl ((λ w f at is. cc), sym (ap (good_row plan k) none)))
      synced k (inr h) = inl h

      no_row : {X : Type 0} (k : Key) (r : Row) → IsRow empty_machine.board k r → X
      no_row k r (inl h) = absurd cc
      no_row k r (inr (w, f, at, is, new)) = absurd cc

      no_user : {X : Type 0} (k : Key) (o : Owner) → IsUser plan empty_machine.board k o → X
      no_user k o (inl (w, f, at, is, counts)) = absurd cc
      no_user k o (inr (rests, h)) = elim h [ ]

      none_due : (kind : Kind) (n : ℕ) → sum_below n (λ w. 0) ≡ 0
      none_due kind zero = refl
      none_due kind (suc n) = let rest = none_due kind n in omega (arith, rest)

  pub kept-empty : IsSafe plan workers capacities empty_switch
  kept-empty = safe-fresh no_writes [] (λ k. refl) (λ k. (0, omega arith, refl)) (λ k. inl refl)
