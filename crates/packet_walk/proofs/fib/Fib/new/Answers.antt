use Rattle.std.proofs.Common.{◌≡◌, IfOk, rules, subst}
use Rattle.sai_types.specs.Named.{named, those}
use Rattle.chip_names.specs.Naming.{entries_of}
use Rattle.packet_walk.specs.Sends.{macs_in}
use Rattle.packet_walk.specs.Tables.{AreTablesOf}
use Rattle.packet_walk.proofs.Answered.{made-answers}
use Rattle.packet_walk.proofs.fib.Fib.new.Goals as goal

pub returns : goal.returns
returns c =
    let ts = c.deref-2.result.now in
    let same : ts ≡ those (named (entries_of c.args.objects.now)) = search rules in
    let macs : c.in_ok-macs.macs.entries ≡ macs_in ts = search rules in
    subst (λ ts. IfOk c.of.result (λ fib. AreTablesOf ts fib)) same (made-answers c.of.result ts c.in_ok-macs.macs.entries macs c.of.ensures.made c.of.ensures.proper)
