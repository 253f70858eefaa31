-- the lines of effects
use Rattle.std.proofs.Common.{◌≡◌, ◌∙◌, ℕ, suc, ◌+◌, ◌-◌, ◌<◌, List, [], ◌∷◌, ◌++◌, Option, refl, sym, ap, append_assoc, arith}
use Rattle.std.specs.Fmt.{decimal}
use Rattle.table_schema.specs.Plan.{Ports}
use Rattle.sai_types.specs.declared.body.Call.{Call}
use Rattle.sai_types.specs.declared.ids.Rid.{Rid}
use Rattle.sai_types.specs.declared.thing.Thing.{Thing}
use Rattle.sai_chip.specs.SimChip.{effect_at}
use Rattle.sai_chip.specs.Replay.{effect_thing}
use Rattle.swss_report.specs.Calls.{about_text, call_lines, call_text, verb_text}

-- the lines up to effect n are that of the next effect and the others
pub call_lines-next : (plan : Ports) (effects : List (Call Rid)) (k n : ℕ) → k < n → call_lines plan effects k (n - k) ≡ call_text plan effects (k + 1) ++ call_lines plan effects (k + 1) (n - (k + 1))
call_lines-next plan effects k n less =
    let more : n - k ≡ suc (n - (k + 1)) = omega arith in
    rw more refl

-- the line of the next effect was appended
pub call_lines-more : (plan : Ports) (effects : List (Call Rid)) (k n : ℕ) (effect : Option (Call Rid)) (thing : Option Thing) (done new all : List ℕ) → k < n → effect ≡ effect_at effects (k + 1) → thing ≡ effect_thing effects (k + 1) → new ≡ done ++ (decimal (k + 1) ++ verb_text effect ++ about_text plan thing ++ 10 ∷ []) → done ++ call_lines plan effects k (n - k) ≡ all → new ++ call_lines plan effects (k + 1) (n - (k + 1)) ≡ all
call_lines-more plan effects k n effect thing done new all less did about is before =
    let more : new ≡ done ++ call_text plan effects (k + 1) = is ∙ ap (λ e. done ++ (decimal (k + 1) ++ verb_text e ++ about_text plan thing ++ 10 ∷ [])) did ∙ ap (λ t. done ++ (decimal (k + 1) ++ verb_text (effect_at effects (k + 1)) ++ about_text plan t ++ 10 ∷ [])) about in
    let rest : List ℕ = call_lines plan effects (k + 1) (n - (k + 1)) in
    ap (λ l. l ++ rest) more ∙ append_assoc done (call_text plan effects (k + 1)) rest ∙ ap (λ l. done ++ l) (sym (call_lines-next plan effects k n less)) ∙ before
