-- an accepted script has the forms of this stage alone
use Rattle.std.proofs.Common.{◌≡◌, ℕ, ◌+◌, ◌<◌, ◌≤◌, ◌==◌, nat_lt, Bool, true, false, cond, ◌||◌, List, [], ◌∷◌, ◌++◌, length, map, Option, Some, None, Result, Ok, Err, refl, sym, ap, ap₂, ◌∙◌, subst, arith, length-append, bytes_eq, slice_index_or, slice_set, if◌then◌else◌}
use Rattle.std.proofs.lemmas.Bool.{eqb-false, ltb-true, ne_eqb, or_parts}
use Rattle.std.proofs.lemmas.List.Folds.{list_any-append}
use Rattle.std.specs.List.{list_any, position}
use Rattle.table_schema.specs.Plan.{IsPlan, Ports, plan_step}
use Rattle.table_schema.specs.Rows.{Rows}
use Rattle.table_schema.specs.declared.plan.PlanWhy.{PlanWhy}
use Rattle.table_schema.proofs.Plans.{IsPlan-none, IsPlan-plan_step}
use Rattle.sai_types.specs.Objects.{level}
use Rattle.sai_types.specs.declared.kind.Kind.{Kind}
use Rattle.swss_image.specs.declared.fault.ImageFault.{ImageFault}
use Rattle.swss_script.specs.Script.{new_draft, ended_in, in_head, in_section, producer_named, draft_round_ended, script_at, script_of, section_begun, round_settled, shown_in, with_capacity, with_fail, with_image, draft_with_line, with_plan}
use Rattle.swss_script.specs.Stage.{AreImageRows, IsOfStage, NameEachOnce}
use Rattle.swss_script.specs.declared.draft.Draft.{Draft}
use Rattle.swss_script.specs.declared.draft.Place.{Place}
use Rattle.swss_script.specs.declared.draft.Place.TheVariants as place
use Rattle.swss_script.specs.declared.line.HeadLine.{HeadLine}
use Rattle.swss_script.specs.declared.line.HeadLine.TheVariants as head
use Rattle.swss_script.specs.declared.line.Line.{Line}
use Rattle.swss_script.specs.declared.line.Line.TheVariants.{Blank, Head, Producer, Put, Batch, Block, Restart, Settle, Shown, Other}
use Rattle.swss_script.specs.declared.parts.Act.{Act}
use Rattle.swss_script.specs.declared.parts.Act.TheVariants as act
use Rattle.swss_script.specs.declared.parts.Fail2.{Fail2}
use Rattle.swss_script.specs.declared.parts.Show.{Show}
use Rattle.swss_script.specs.declared.refused.Why.TheVariants as why
use Rattle.swss_script.specs.declared.script.Script.{Script}
use Rattle.swss_script.proofs.ImageRows.{HasReadImage}
use Rattle.swss_script.proofs.Kept.{kept-script}
use Rattle.swss_script.proofs.Numbered.{numbered-script}
use Rattle.swss_script.proofs.Steps.{same-ok, with_producer}

-- the script of a draft, with the rounds that ended
record IsBuiltScript (script : Script) : Type 0 where
  fails : NameEachOnce script.fails
  image : AreImageRows script.image
  plan : IsPlan script.plan
  producers : length script.producers ≤ 4

abbrev IsStaged : Draft → Type 0
IsStaged d = IsBuiltScript d.script

-- a failing call more, with a number of its own
once-last : (fails : List Fail2) (fail : Fail2) → list_any (λ other. other.at == fail.at) fails ≡ false → NameEachOnce fails → NameEachOnce (fails ++ fail ∷ [])
once-last [] fail new once = (refl, tt)
once-last (first ∷ fails) fail new once =
    let both = or_parts (first.at == fail.at) (list_any (λ other. other.at == fail.at) fails) new in
    let apart : list_any (λ other. other.at == first.at) (fails ++ fail ∷ []) ≡ false = list_any-append (λ other. other.at == first.at) fails (fail ∷ []) ∙ ap₂ (λ a b. a || (b || false)) once.0 (ne_eqb fail.at first.at (λ same. eqb-false first.at fail.at both.0 (sym same))) in
    (apart, once-last fails fail both.1 once.1)

-- ---- what ends

staged-round : (d : Draft) → IsStaged d → IsStaged (draft_round_ended d)
staged-round d h = record { fails = h.fails; image = h.image; plan = h.plan; producers = h.producers }

-- what is open ends, and another place is next
staged-ended : (p next : Place) (d : Draft) → IsStaged d → IsStaged (record (ended_in p d) { place = next })
staged-ended place.Head next d h = h
staged-ended (place.Section producer) next d h = h
staged-ended place.Settled next d h = staged-round d h

-- ---- one line

staged-plan : (d e : Draft) (text : List ℕ) (plan : Result Ports PlanWhy) → plan_step d.script.plan text ≡ plan → with_plan d plan ≡ Ok e → IsStaged d → IsStaged e
staged-plan d e text (Ok plan) is k h =
    subst IsStaged (same-ok (record d { script = record d.script { plan = plan } }) e k) (record { fails = h.fails; image = h.image; plan = IsPlan-plan_step d.script.plan plan text h.plan is; producers = h.producers })
staged-plan d e text (Err fault) is k h = cc

-- a capacity of the head
staged-capacity : (d e : Draft) (kind : Kind) (most : ℕ) → with_capacity d kind most ≡ Ok e → IsStaged d → IsStaged e
staged-capacity d e kind most k h = by (slice_index_or d.kinds (level kind) false) k
  where
    room : Draft
    room = record d { script = record d.script { caps = record { 0 = slice_set d.script.caps.0 (level kind) most } }; kinds = slice_set d.kinds (level kind) true }

    by : (twice : Bool) → (if twice then Err why.HeadTwice else Ok room) ≡ Ok e → IsStaged e
    by true k = cc
    by false k = subst IsStaged (same-ok room e k) (record { fails = h.fails; image = h.image; plan = h.plan; producers = h.producers })

-- a failing call of the head
staged-fail : (d e : Draft) (fail : Fail2) → with_fail d fail ≡ Ok e → IsStaged d → IsStaged e
staged-fail d e fail k h = by (list_any (λ other. other.at == fail.at) d.script.fails) refl k
  where
    more : Draft
    more = record d { script = record d.script { fails = d.script.fails ++ fail ∷ [] } }

    by : (twice : Bool) → list_any (λ other. other.at == fail.at) d.script.fails ≡ twice → (if twice then Err why.HeadTwice else Ok more) ≡ Ok e → IsStaged e
    by true is k = cc
    by false is k = subst IsStaged (same-ok more e k) (record { fails = once-last d.script.fails fail is h.fails; image = h.image; plan = h.plan; producers = h.producers })

-- the image of the head
staged-image : (d e : Draft) (image : Result Rows ImageFault) → HasReadImage (Head (Some (head.Image image))) → with_image d image ≡ Ok e → IsStaged d → IsStaged e
staged-image d e (Ok rows) read k h = by d.image k
  where
    set : Draft
    set = record d { script = record d.script { image = rows }; image = true }

    by : (twice : Bool) → (if twice then Err why.HeadTwice else Ok set) ≡ Ok e → IsStaged e
    by true k = cc
    by false k = subst IsStaged (same-ok set e k) (record { fails = h.fails; image = read; plan = h.plan; producers = h.producers })
staged-image d e (Err fault) read k h = by d.image k
  where
    by : (twice : Bool) → (if twice then Err why.HeadTwice else Err (why.BadImage fault)) ≡ Ok e → IsStaged e
    by true k = cc
    by false k = cc

staged-head : (p : Place) (d e : Draft) (line : Option HeadLine) → HasReadImage (Head line) → in_head p d line ≡ Ok e → IsStaged d → IsStaged e
staged-head place.Head d e (Some (head.Port text)) read k h = staged-plan d e text (plan_step d.script.plan text) refl k h
staged-head place.Head d e (Some (head.Chip kind most)) read k h = staged-capacity d e kind most k h
staged-head place.Head d e (Some (head.Fail fail)) read k h = staged-fail d e fail k h
staged-head place.Head d e (Some (head.Image image)) read k h = staged-image d e image read k h
staged-head place.Head d e None read k h = cc
staged-head (place.Section producer) d e line read k h = cc
staged-head place.Settled d e line read k h = cc

staged-acts : (p : Place) (d e : Draft) (acts : List Act) → in_section p d acts ≡ Ok e → IsStaged d → IsStaged e
staged-acts (place.Section producer) d e acts k h = subst IsStaged (same-ok (record d { acts = d.acts ++ acts }) e k) h
staged-acts place.Head d e acts k h = cc
staged-acts place.Settled d e acts k h = cc

staged-shown : (p : Place) (d e : Draft) (what : Show) → shown_in p d what ≡ Ok e → IsStaged d → IsStaged e
staged-shown place.Settled d e what k h = subst IsStaged (same-ok (record d { shows = d.shows ++ what ∷ [] }) e k) h
staged-shown place.Head d e what k h = cc
staged-shown (place.Section producer) d e what k h = cc

staged-new : (d : Draft) (name : List ℕ) → length d.script.producers < 4 → IsStaged d → IsStaged (with_producer d name)
staged-new d name fits h =
    let few : length (d.script.producers ++ name ∷ []) ≤ 4 = omega (arith, fits, length-append d.script.producers (name ∷ [])) in
    record { fails = h.fails; image = h.image; plan = h.plan; producers = few }

staged-first : (d e : Draft) (name : List ℕ) (fits : Bool) → nat_lt (length d.script.producers) 4 ≡ fits → cond fits (Ok (section_begun (with_producer d name) (length d.script.producers + 1))) (Err why.TooManyProducers) ≡ Ok e → IsStaged d → IsStaged e
staged-first d e name true is k h =
    subst IsStaged (same-ok _ _ k) (staged-ended d.place (place.Section (length d.script.producers + 1)) (with_producer d name) (staged-new d name (ltb-true _ _ is) h))
staged-first d e name false is k h = cc

staged-named : (d e : Draft) (name : List ℕ) (at : Option ℕ) → producer_named d name at ≡ Ok e → IsStaged d → IsStaged e
staged-named d e name (Some at) k h = subst IsStaged (same-ok _ _ k) (staged-ended d.place (place.Section (at + 1)) d h)
staged-named d e name None k h = staged-first d e name (nat_lt (length d.script.producers) 4) refl k h

staged-line : (d e : Draft) (line : Line) → HasReadImage line → draft_with_line d line ≡ Ok e → IsStaged d → IsStaged e
staged-line d e Blank read k h = subst IsStaged (same-ok _ _ k) h
staged-line d e (Head line) read k h = staged-head d.place d e line read k h
staged-line d e (Producer name) read k h = staged-named d e name (position (bytes_eq name) d.script.producers) k h
staged-line d e (Put write) read k h = staged-acts d.place d e (act.Write write ∷ []) k h
staged-line d e (Batch (Some writes)) read k h = staged-acts d.place d e (map act.Write writes) k h
staged-line d e (Batch None) read k h = cc
staged-line d e Block read k h = cc
staged-line d e Restart read k h = staged-acts d.place d e (act.Restart ∷ []) k h
staged-line d e Settle read k h = subst IsStaged (same-ok _ _ k) (staged-ended d.place place.Settled d h)
staged-line d e (Shown what) read k h = staged-shown d.place d e what k h
staged-line d e Other read k h = cc

-- ---- scripts

-- a script of built forms, with at least one round
abbrev IsDone : Script → Type 0
IsDone script = IsBuiltScript script × (0 < length script.rounds)

done-round : (d : Draft) → IsStaged d → IsDone (draft_round_ended d).script
done-round d h = (staged-round d h, omega (arith, length-append d.script.rounds ((record { sections = d.sections; shows = d.shows }) ∷ [])))

done-at : (p : Place) (d : Draft) → d.place ≡ p → IsStaged d → IsDone (script_at p d)
done-at place.Settled d is h = subst (λ q. IsDone (ended_in q d).script) (sym is) (done-round d h)
done-at place.Head d is h = done-round (round_settled d) (staged-ended d.place place.Settled d h)
done-at (place.Section producer) d is h = done-round (round_settled d) (staged-ended d.place place.Settled d h)

done-script : (bytes : List ℕ) (script : Script) → script_of bytes ≡ Ok script → IsDone script
done-script bytes script h =
    let empty : IsBuiltScript new_draft.script = record { fails = tt; image = tt; plan = IsPlan-none; producers = omega arith } in
    kept-script IsStaged staged-line (λ d block s. s) IsDone (λ d s. done-at d.place d refl s) bytes script empty h

-- what an accepted script of this stage has
pub stage-of_script : (bytes : List ℕ) (script : Script) → script_of bytes ≡ Ok script → IsOfStage script
stage-of_script bytes script h =
    let done = done-script bytes script h in
    let s = done.0 in
    record { fails = s.fails; image = s.image; plan = s.plan; producers = s.producers; several = done.1; numbers = (numbered-script bytes script h).rounds }
