use Rattle.std.proofs.Common.{◌≡◌, OnOk, sym, ap, ◌∙◌, subst}
use Rattle.ref_counts.specs.Registered.{with_user}
use Rattle.ref_counts.specs.Registry.{changed}
use Rattle.orch_flight.specs.Sharing.{IsNameReady, lacks_shared, with_shared}
use Rattle.orch_flight.proofs.Unused.{unused-built, unused-none, unused-same}
use Rattle.orch_flight.proofs.beginning.begin_shared.Goals as goal

pub build_shared-requires-clause-absent : goal.build_shared-requires-clause-absent
build_shared-requires-clause-absent c =
    let ready = subst (IsNameReady c.args.reg.now) c.in-Some.is c.requires.shared in
    let is = c.in_ok-share.ensures.ok ∙ ap (λ k. changed c.args.reg.now c.in-Some.name (with_user k)) c.copied.ensures in
    unused-none c.args.reg.now c.share.new.self c.in-Some.name c.args.key.now c.in_ok-share.field-0 ready c.in_ok-share.ensures.there is c.if-branch.false

pub returns-clause-ok : goal.returns-clause-ok
returns-clause-ok c =
    let ready = subst (IsNameReady c.args.reg.now) c.in-Some.is c.requires.shared in
    let is = c.in_ok-share.ensures.ok ∙ ap (λ k. changed c.args.reg.now c.in-Some.name (with_user k)) c.copied.ensures in
    subst (λ o. OnOk c.build_shared.result (c.build_shared.new.reg ≡ with_shared c.args.reg.now c.args.worker c.args.key.now o (lacks_shared c.args.reg.now o))) (sym c.in-Some.is)
    (unused-built c.args.reg.now c.share.new.self c.in-Some.name c.args.key.now c.in_ok-share.field-0 ready c.in_ok-share.ensures.there is c.if-branch.false c.build_shared.new.reg c.args.worker c.build_shared.result c.build_shared.ensures.ok)

pub returns-clause-err : goal.returns-clause-err
returns-clause-err c =
    let ready = subst (IsNameReady c.args.reg.now) c.in-Some.is c.requires.shared in
    let is = c.in_ok-share.ensures.ok ∙ ap (λ k. changed c.args.reg.now c.in-Some.name (with_user k)) c.copied.ensures in
    unused-same c.args.reg.now c.share.new.self c.in-Some.name c.args.key.now c.in_ok-share.field-0 ready c.in_ok-share.ensures.there is c.if-branch.false c.build_shared.new.reg c.build_shared.result c.build_shared.ensures.err
