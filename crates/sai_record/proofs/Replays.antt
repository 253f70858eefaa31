-- where a replay stands behind its first calls
use Rattle.std.proofs.Common.{◌≡◌, ◌⊎◌, inl, inr, ℕ, ◌+◌, ◌-◌, ◌<◌, List, [], ◌∷◌, ◌++◌, count_by, length, take, drop, Option, None, Some, Result, Ok, Err, refl, sym, ap, ap₂, ◌∙◌, subst, append_assoc, zero-add, add-sub_cancel, arith}
use Rattle.std.proofs.lemmas.List.{append-nil, take-append-drop}
use Rattle.std.proofs.lemmas.Option.{none-some}
use Rattle.sai_types.specs.After.{makes_id}
use Rattle.sai_types.specs.ChipState.{ChipState}
use Rattle.sai_types.specs.Made.{AreSorted}
use Rattle.sai_types.specs.Named.{named}
use Rattle.sai_types.specs.Objects.{Objects}
use Rattle.sai_types.proofs.Found.{sorted-after_call}
use Rattle.sai_types.proofs.Whole.{whole-empty}
use Rattle.sai_record.specs.Build.{Built, Numbers, after_recorded, build, built_from, call_ids, call_meant, first_unknown, first_why, nothing_built, stop_of, unless_stopped}
use Rattle.sai_record.specs.Replayed.{HasPerhaps, IsCallMade, IsReplayed, StandsBuilt, built_on}
use Rattle.sai_record.specs.declared.recording.Recorded.{Recorded}
use Rattle.sai_record.specs.declared.replaying.Replayed.TheVariants as replayed
use Rattle.sai_record.specs.declared.replaying.StopWhy.{StopWhy}
use Rattle.sai_record.specs.declared.replaying.StopWhy.TheVariants as why
use Rattle.sai_record.proofs.Later.{later_objects, named-later}
use Rattle.sai_record.proofs.Following.{built-later, built_later, stop-later}

-- so many calls were built, and on the chip the same, each identifier greater by so many as the chip made before
pub record IsFollowed (k : ℕ) (capacities : List ℕ) (calls : List Recorded) (at : ℕ) (numbers : Numbers) (chip : ChipState) : Type 0 where
  pub built : Built
  pub follows : (more : List Recorded) → build capacities (take at calls ++ more) ≡ built_from capacities (at + 1) built more
  pub on : built_on numbers chip ≡ built_later k built
  pub sorted : AreSorted built.objects
  pub sorted' : AreSorted chip.objects

nothing_on : (k : ℕ) (objects : Objects) → objects ≡ [] → ◌≡◌ {A = Built} (record { made = k; numbers = []; objects = objects }) (built_later k (nothing_built 0))
nothing_on k objects empty = let of : ℕ → Objects → Built = λ made os. record { made = made; numbers = []; objects = os } in ap₂ of (sym (zero-add k)) empty

pub begins : (capacities : List ℕ) (calls : List Recorded) (chip : ChipState) → chip.objects ≡ [] → IsFollowed (count_by makes_id chip.effects) capacities calls 0 [] chip
begins capacities calls chip empty = record {
  built = nothing_built 0;
  follows = λ more. refl;
  on = nothing_on (count_by makes_id chip.effects) chip.objects empty;
  sorted = whole-empty.sorted;
  sorted' = subst AreSorted (sym empty) whole-empty.sorted;
}

first_none : (a b : Option StopWhy) → first_why a b ≡ None → a ≡ None
first_none None b h = refl
first_none (Some w) b h = absurd (none-some w (sym h))

module _ (k : ℕ) (capacities : List ℕ) (calls : List Recorded) (at : ℕ) (numbers : Numbers) (chip : ChipState) (x : IsFollowed k capacities calls at numbers chip) where
  objects_on : chip.objects ≡ later_objects k x.built.objects
  objects_on = ap (λ b. b.objects) x.on

  -- what stands is what the calls so far build
  pub stands-built : StandsBuilt capacities (take at calls) chip.objects
  stands-built = (x.built, ap (build capacities) (sym (append-nil (take at calls))) ∙ x.follows [], ap named objects_on ∙ named-later k x.built.objects)

  module _ (r : Recorded) (next : take (at + 1) calls ≡ take at calls ++ r ∷ []) where
    stop_built : stop_of capacities (built_on numbers chip) r ≡ stop_of capacities x.built r
    stop_built = ap (λ b. stop_of capacities b r) x.on ∙ stop-later k capacities x.built r x.sorted (subst AreSorted objects_on x.sorted')

    whole : calls ≡ take at calls ++ r ∷ drop (at + 1) calls
    whole = sym (take-append-drop (at + 1) calls) ∙ ap (λ front. front ++ drop (at + 1) calls) next ∙ append_assoc (take at calls) (r ∷ []) (drop (at + 1) calls)

    -- building stops at the next call
    pub stops-built : (w : StopWhy) → stop_of capacities (built_on numbers chip) r ≡ Some w → build capacities calls ≡ Err (at + 1, w)
    stops-built w stop =
        let rest = drop (at + 1) calls in
        ap (build capacities) whole ∙ x.follows (r ∷ rest)
        ∙ ap (λ o. unless_stopped o (at + 1) (built_from capacities (at + 1 + 1) (after_recorded x.built r) rest)) (sym stop_built ∙ stop)

    module _ (goes : stop_of capacities (built_on numbers chip) r ≡ None) where
      stop_none : stop_of capacities x.built r ≡ None
      stop_none = sym stop_built ∙ goes

      reaches : (more : List Recorded) → build capacities (take (at + 1) calls ++ more) ≡ built_from capacities (at + 1 + 1) (after_recorded x.built r) more
      reaches more =
          ap (build capacities) (ap (λ front. front ++ more) next ∙ append_assoc (take at calls) (r ∷ []) more) ∙ x.follows (r ∷ more)
          ∙ ap (λ o. unless_stopped o (at + 1) (built_from capacities (at + 1 + 1) (after_recorded x.built r) more)) stop_none

      leaves : after_recorded (built_on numbers chip) r ≡ built_later k (after_recorded x.built r)
      leaves = ap (λ b. after_recorded b r) x.on ∙ built-later k x.built r (first_none (first_unknown x.built.numbers (call_ids r.call)) _ stop_none)

      objects_sorted : AreSorted (after_recorded (built_on numbers chip) r).objects
      objects_sorted = sorted-after_call _ chip.objects (call_meant (built_on numbers chip) r) x.sorted'

      pub followed-next : (numbers' : Numbers) (chip' : ChipState) → built_on numbers' chip' ≡ after_recorded (built_on numbers chip) r → IsFollowed k capacities calls (at + 1) numbers' chip'
      followed-next numbers' chip' made = record {
        built = after_recorded x.built r;
        follows = reaches;
        on = made ∙ leaves;
        sorted = sorted-after_call (x.built.made + 1) x.built.objects (call_meant x.built r) x.sorted;
        sorted' = subst AreSorted (sym (ap (λ b. b.objects) made)) objects_sorted;
      }

      stands_next : StandsBuilt capacities (take (at + 1) calls) (after_recorded (built_on numbers chip) r).objects
      stands_next = (after_recorded x.built r, ap (build capacities) (sym (append-nil (take (at + 1) calls))) ∙ reaches [], ap (λ b. named b.objects) leaves ∙ named-later k (after_recorded x.built r).objects)

    -- where the chip failed the next call is built or not
    pub perhaps-built : (objects : Objects) → capacities ≡ chip.capacities → HasPerhaps numbers chip r objects → StandsBuilt capacities (take at calls) objects ⊎ StandsBuilt capacities (take (at + 1) calls) objects
    perhaps-built objects same (inl is) = inl (subst (StandsBuilt capacities (take at calls)) (sym is) stands-built)
    perhaps-built objects same (inr (goes, is)) = inr (subst (StandsBuilt capacities (take (at + 1) calls)) (sym is) (stands_next (ap (λ c. stop_of c (built_on numbers chip) r) same ∙ goes)))

    -- ---- and the next call, by what was answered

    pub goes-on : (answer : Result (Unit {0}) StopWhy) (numbers' : Numbers) (chip' : ChipState) → ((w : StopWhy) → answer ≡ Err w → ⊥) → chip.capacities ≡ capacities → IsCallMade numbers chip r answer numbers' chip'
        → IsFollowed k capacities calls (at + 1) numbers' chip' × (chip'.faults ≡ chip.faults)
    goes-on (Err w) numbers' chip' none same h = absurd (none w refl)
    goes-on (Ok u) numbers' chip' none same h = (followed-next (ap (λ c. stop_of c (built_on numbers chip) r) (sym same) ∙ h.0) numbers' chip' h.1, h.2)

    stands_before : (objects : Objects) → objects ≡ chip.objects → StandsBuilt capacities (take (at + 1 - 1) calls) objects
    stands_before objects is = subst (λ n. StandsBuilt capacities (take n calls) objects) (sym (add-sub_cancel at 1)) (subst (StandsBuilt capacities (take at calls)) (sym is) stands-built)

    perhaps_next : (objects : Objects) → capacities ≡ chip.capacities → HasPerhaps numbers chip r objects → StandsBuilt capacities (take (at + 1 - 1) calls) objects ⊎ StandsBuilt capacities (take (at + 1) calls) objects
    perhaps_next objects same h = subst (λ n. StandsBuilt capacities (take n calls) objects ⊎ StandsBuilt capacities (take (at + 1) calls) objects) (sym (add-sub_cancel at 1)) (perhaps-built objects same h)

    module _ (old chip' : ChipState) (numbers' : Numbers) (room : old.capacities ≡ capacities) (room' : chip.capacities ≡ capacities) (calm : chip.faults ≡ old.faults) (within : at < length calls) where
      refused_at : (w : StopWhy) → (stop_of chip.capacities (built_on numbers chip) r ≡ Some w) × (chip'.objects ≡ chip.objects) × (chip'.faults ≡ chip.faults)
          → (build old.capacities calls ≡ Err (at + 1, w)) × StandsBuilt old.capacities (take (at + 1 - 1) calls) chip'.objects × (chip'.faults ≡ old.faults)
      refused_at w h = (
        ap (λ c. build c calls) room ∙ stops-built w (ap (λ c. stop_of c (built_on numbers chip) r) (sym room') ∙ h.0),
        subst (λ c. StandsBuilt c (take (at + 1 - 1) calls) chip'.objects) (sym room) (stands_before chip'.objects h.1),
        h.2 ∙ calm,
      )

      pub stops-at : (w : StopWhy) → IsCallMade numbers chip r (Err w) numbers' chip' → IsReplayed old calls (replayed.Stopped (at + 1) w) chip'
      stops-at why.Failed h = (
        omega arith,
        omega (arith, within),
        subst (λ c. StandsBuilt c (take (at + 1 - 1) calls) chip'.objects ⊎ StandsBuilt c (take (at + 1) calls) chip'.objects) (sym room) (perhaps_next chip'.objects (sym room') h.0),
        h.1 ∙ ap (λ n. n + 1) calm,
      )
      stops-at (why.UnknownId i) h = refused_at (why.UnknownId i) h
      stops-at (why.TwiceId i) h = refused_at (why.TwiceId i) h
      stops-at (why.Refused a) h = refused_at (why.Refused a) h
