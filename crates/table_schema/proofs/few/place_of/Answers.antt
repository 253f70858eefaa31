use Rattle.std.proofs.Common.{rules}
use Rattle.std.proofs.lemmas.Cmp.{nat_list_cmp_total}
use Rattle.std.proofs.lemmas.Fn.{always_returns_same}
use Rattle.table_schema.specs.Fields.{by_bytes}
use Rattle.table_schema.proofs.Places.{placed}
use Rattle.table_schema.proofs.few.place_of.Goals as goal

pub returns : goal.returns
returns c = placed by_bytes nat_list_cmp_total c.args.pairs.now c.args.name.now c.binary_search_by.result c.requires c.binary_search_by.ensures.bound (c.binary_search_by.ensures.position (λ pair. by_bytes pair.0 c.args.name.now) (always_returns_same _ _ _ (λ a r f h. search rules)))
