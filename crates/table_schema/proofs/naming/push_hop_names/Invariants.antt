use Rattle.std.proofs.Common.{◌≡◌, ◌++◌, drop, map}
use Rattle.table_schema.specs.declared.key.Key.TheVariants.{Neigh}
use Rattle.table_schema.proofs.naming.push_hop_names.Given as goal

-- the names so far, with those of the hops that are left, are the first ones and those of all hops
abbrev pub invariant-loop-hop : goal.invariant-loop-hop
invariant-loop-hop l = l.names.items ++ map (λ h. Neigh h.0.on h.0.ip) (drop l.hop-index l.hops) ≡ l.fn.names.items ++ map (λ h. Neigh h.0.on h.0.ip) l.hops
