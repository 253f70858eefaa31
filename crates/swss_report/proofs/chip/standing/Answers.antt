use Rattle.std.proofs.Common.{◌≡◌, ap, ◌∙◌, subst}
use Rattle.std.specs.List.Sorted.{IsPermutation}
use Rattle.sai_types.specs.Named.{named, those}
use Rattle.chip_names.specs.Naming.{entries_of}
use Rattle.chip_names.proofs.SameNames.{entries_of-objects_of}
use Rattle.swss_report.proofs.chip.standing.Goals as goal

pub returns : goal.returns
returns c =
    let same : entries_of c.as_slice.result.now ≡ c.args.chip.now.objects = ap entries_of (c.as_slice.ensures.value ∙ c.in_ok-objects.ensures) ∙ entries_of-objects_of c.args.chip.now.objects in
    record {
      stand = subst (λ os. IsPermutation (those (named os)) c.in_ok-things.things.items) same c.in_ok-things.ensures.0;
      ordered = c.in_ok-things.ensures.1;
    }
