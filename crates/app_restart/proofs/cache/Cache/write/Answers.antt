use Rattle.std.proofs.Common.{◌∙◌, ap, sym}
use Rattle.producer_table.proofs.Placed.{kept}
use Rattle.app_restart.specs.Cached.{Cached}
use Rattle.app_restart.specs.Entry.{IsCacheInOrder, cached_in, entries_after}
use Rattle.app_restart.proofs.Writing.{IsCacheInOrder-after, cached-after, on_ok}
use Rattle.app_restart.proofs.cache.Cache.write.Goals as goal

pub invariant_of-self : goal.invariant_of-self
invariant_of-self c =
    let entries = c.self.inside.entries in
    let table = c.self.inside.table in
    let on = c.requires ∙ sym (ap (λ (v : Cached). v.table) c.self.view_is) in
    kept (IsCacheInOrder table) c.apply.result entries (entries_after entries c.args.write.now) c.apply.new.entries c.apply.ensures.ok c.apply.ensures.err c.self.invariant (IsCacheInOrder-after table entries c.args.write.now on c.self.invariant)

pub returns-clause-ok : goal.returns-clause-ok
returns-clause-ok c =
    let entries = c.self.inside.entries in
    let table = c.self.inside.table in
    rw (← c.self.view_is) (on_ok c.apply.result (λ is. ap (cached_in table) is ∙ cached-after entries c.self.invariant.rising table c.args.write.now) c.apply.ensures.ok)
