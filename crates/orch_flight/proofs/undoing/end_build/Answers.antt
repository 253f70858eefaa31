use Rattle.std.proofs.Common.{◌≡◌, None, [], option_and_then, sym, ap, ◌∙◌}
use Rattle.std.proofs.lemmas.Option.{none-some}
use Rattle.ref_counts.specs.Registered.{begun, begun_to_go, made_live, retire_refusal}
use Rattle.ref_counts.specs.Registry.{changed, gone_from, retire_refusal_at, state_in, state_of}
use Rattle.ref_counts.proofs.Found.{found-put}
use Rattle.orch_flight.proofs.Begun.{begun-ended, built-found}
use Rattle.orch_flight.proofs.undoing.end_build.Goals as goal

pub built-requires-clause-builds : goal.built-requires-clause-builds
built-requires-clause-builds c =
    ap (λ l. state_of l c.args.name.now) c.requires.3 ∙ ap state_in (found-put c.requires.0 c.args.name.now (begun c.args.worker c.requires.1))

pub try_retire-requires : goal.try_retire-requires
try_retire-requires c =
    ap (λ l. state_of l c.args.name.now) c.built.ensures
    ∙ ap (λ l. state_of (changed l c.args.name.now (made_live [])) c.args.name.now) c.requires.3
    ∙ ap state_in (built-found c.args.name.now c.args.worker c.requires.1 c.requires.0 c.requires.2)

pub unreachable-requires : goal.unreachable-requires
unreachable-requires c =
    let free : retire_refusal_at c.built.new.self c.args.worker c.args.name.now ≡ None =
    ap (λ l. retire_refusal_at l c.args.worker c.args.name.now) c.built.ensures
    ∙ ap (λ l. retire_refusal_at (changed l c.args.name.now (made_live [])) c.args.worker c.args.name.now) c.requires.3
    ∙ ap (option_and_then (retire_refusal c.args.worker)) (built-found c.args.name.now c.args.worker c.requires.1 c.requires.0 c.requires.2) in
    none-some _ (sym free ∙ c.in-Err.ensures.refusal)

pub returns : goal.returns
returns c = λ names vids none is.
    c.gone.ensures
    ∙ ap (λ l. gone_from l c.args.name.now) (c.in-Ok.ensures.ok ∙ ap (λ l. changed l c.args.name.now (begun_to_go c.args.worker)) (c.built.ensures ∙ ap (λ l. changed l c.args.name.now (made_live [])) is))
    ∙ begun-ended c.args.name.now c.args.worker vids names none
