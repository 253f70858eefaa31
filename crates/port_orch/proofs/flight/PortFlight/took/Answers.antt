use Rattle.std.proofs.Common.{◌≡◌, true, [], ◌∷◌, Some, None, refl, sym, subst, ◌∙◌}
use Rattle.table_schema.specs.declared.key.Key.TheVariants as key
use Rattle.sai_types.specs.declared.ids.Vid.{Vid}
use Rattle.ref_counts.specs.declared.name.Name.TheVariants as name
use Rattle.ref_counts.specs.Registered.{made_live}
use Rattle.ref_counts.specs.Registry.{changed}
use Rattle.orch_flight.specs.Taking.{IsTook}
use Rattle.port_orch.specs.Ports.{port_operation}
use Rattle.port_orch.proofs.Calls.{port_operation_told}
use Rattle.port_orch.proofs.Takes.{builds, never-unmade, took-made, took-removed, took-set}
use Rattle.port_orch.proofs.flight.PortFlight.took.Goals.{in-Some+in-Row+in-Other+in-Long-1, in-Some+in-Row+in-Other+in-Short-1, in-Some+in-Row+in-Port-1, in-Some+in-Group-1, in-Some+in-BridgePort-1, in_default-made, in_default-via-in-Some+in_default, in_default-via-in-None+in_default}
use Rattle.port_orch.proofs.flight.PortFlight.took.Goals as goal

pub built-requires-clause-builds : goal.built-requires-clause-builds
built-requires-clause-builds c =
    let i = c.self.inside in
    let r = c.in-None-Some.field-0-1 in
    (builds c.args.reg.now i.worker i.port c.args.made c.in-Some.vid i.done r c.args.self.now
    (port_operation_told c.args.self.now i.worker i.port i.done i.done i.current None i.target (Some r) c.self.view_is refl c.in-None-Some.is-0 c.in-None-Some.is-1) c.in-Some.is c.requires).0

pub built-requires-clause-places : goal.built-requires-clause-places
built-requires-clause-places c =
    let i = c.self.inside in
    let r = c.in-None-Some.field-0-1 in
    (builds c.args.reg.now i.worker i.port c.args.made c.in-Some.vid i.done r c.args.self.now
    (port_operation_told c.args.self.now i.worker i.port i.done i.done i.current None i.target (Some r) c.self.view_is refl c.in-None-Some.is-0 c.in-None-Some.is-1) c.in-Some.is c.requires).1

pub returns-in-Some-Some : goal.returns-in-Some-Some
returns-in-Some-Some c =
    let i = c.self.inside in
    let a = c.in-Some-Some.now in
    let r = c.in-Some-Some.new in
    let is = port_operation_told c.args.self.now i.worker i.port i.done i.done i.current (Some a) i.target (Some r) c.self.view_is refl c.in-Some-Some.is-0 c.in-Some-Some.is-1 in
    subst (λ t. IsTook c.args.self.now c.args.made c.args.reg.now (port_operation i.worker i.port i.done (Some c.step.new.now) t) c.args.reg.now) (sym c.in-Some-Some.is-1)
    (took-set c.args.reg.now i.worker i.port c.args.made i.done a r c.step.new.now c.args.self.now is c.step.ensures c.requires)

pub returns-after-made : goal.returns-after-made
returns-after-made c =
    let i = c.self.inside in
    let r = c.in-None-Some.field-0-1 in
    let is = port_operation_told c.args.self.now i.worker i.port i.done i.done i.current None i.target (Some r) c.self.view_is refl c.in-None-Some.is-0 c.in-None-Some.is-1 in
    subst (λ o. IsTook c.args.self.now c.args.made c.args.reg.now (port_operation i.worker i.port true o i.target) c.match-made.reg) (sym c.in-None-Some.is-0)
    (subst (λ t. IsTook c.args.self.now c.args.made c.args.reg.now (port_operation i.worker i.port true None t) c.match-made.reg) (sym c.in-None-Some.is-1)
    (let made : (v : Vid) → c.args.made ≡ Some v → c.match-made.reg ≡ changed c.args.reg.now (name.Row (key.Port i.port)) (made_live (v ∷ [])) → IsTook c.args.self.now c.args.made c.args.reg.now (port_operation i.worker i.port true None (Some r)) c.match-made.reg =
    λ v some later. took-made c.args.reg.now i.worker i.port c.args.made v i.done r c.match-made.reg c.args.self.now is some later c.requires in
    elim c.match-made.branch [
      | in-Some+in-Row+in-Other+in-Long-1 w ↦ made w.in-Some.vid w.in-Some.is (w.reg-is ∙ w.built.ensures)
      | in-Some+in-Row+in-Other+in-Short-1 w ↦ made w.in-Some.vid w.in-Some.is (w.reg-is ∙ w.built.ensures)
      | in-Some+in-Row+in-Port-1 w ↦ made w.in-Some.vid w.in-Some.is (w.reg-is ∙ w.built.ensures)
      | in-Some+in-Group-1 w ↦ made w.in-Some.vid w.in-Some.is (w.reg-is ∙ w.built.ensures)
      | in-Some+in-BridgePort-1 w ↦ made w.in-Some.vid w.in-Some.is (w.reg-is ∙ w.built.ensures)
      | in_default-made w ↦ absurd (never-unmade c.args.reg.now i.worker i.port c.args.made i.done r c.args.self.now is w.in_default-made.is c.requires)
    ]))

pub returns-in_default : goal.returns-in_default
returns-in_default c =
    let i = c.self.inside in
    let removed : i.target ≡ None → IsTook c.args.self.now c.args.made c.args.reg.now (port_operation i.worker i.port true i.current i.target) c.args.reg.now =
    λ none. took-removed c.args.reg.now i.worker i.port c.args.made i.done i.current i.target c.args.self.now (sym c.self.view_is) none c.requires in
    elim c.in_default.branch [
      | in_default-via-in-Some+in_default w ↦
          subst (λ s. IsTook c.args.self.now c.args.made c.args.reg.now (port_operation s.worker s.port true s.current s.target) c.args.reg.now) (sym w.self-inside-is)
          (subst (λ o. IsTook c.args.self.now c.args.made c.args.reg.now (port_operation i.worker i.port true o i.target) c.args.reg.now) w.in_default.is-0 (removed w.in_default.is-1))
      | in_default-via-in-None+in_default w ↦
          subst (λ s. IsTook c.args.self.now c.args.made c.args.reg.now (port_operation s.worker s.port true s.current s.target) c.args.reg.now) (sym w.self-inside-is)
          (removed w.in_default.is-1)
    ]
