use Rattle.table_schema.proofs.Writes.{behind_others}
use Rattle.table_schema.proofs.key.Key.write_parts.Goals as goal

pub returns-in_ok-write_named-in-Member-clause-ok : goal.returns-in_ok-write_named-in-Member-clause-ok
returns-in_ok-write_named-in-Member-clause-ok c = rw c.in-Member.is (behind_others c.write_named-in-Member-2.result _ _ _ _ _ c.in_ok-write_named-in-Member.ensures.ok c.write_named-in-Member-2.ensures.ok)

pub returns-in_ok-write_named-in-Addr-clause-ok : goal.returns-in_ok-write_named-in-Addr-clause-ok
returns-in_ok-write_named-in-Addr-clause-ok c = rw c.in-Addr.is (behind_others c.write_address.result _ _ _ _ _ c.in_ok-write_named-in-Addr.ensures.ok c.write_address.ensures.ok)

pub returns-in_ok-write_named-in-Neigh-clause-ok : goal.returns-in_ok-write_named-in-Neigh-clause-ok
returns-in_ok-write_named-in-Neigh-clause-ok c = rw c.in-Neigh.is (behind_others c.write_ip.result _ _ _ _ _ c.in_ok-write_named-in-Neigh.ensures.ok c.write_ip.ensures.ok)

pub returns-in_ok-write_routes-in-Route-clause-ok : goal.returns-in_ok-write_routes-in-Route-clause-ok
returns-in_ok-write_routes-in-Route-clause-ok c = rw c.in-Route.is (behind_others c.write.result _ _ _ _ _ c.in_ok-write_routes-in-Route.ensures.ok c.write.ensures.ok)
