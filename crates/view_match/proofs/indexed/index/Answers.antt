use Rattle.std.proofs.Common.{length, None, ap, subst, ◌∙◌, IsPermutation}
use Rattle.std.proofs.lemmas.List.Sorted.{IsPermutation-map}
use Rattle.chip_names.specs.Naming.{entries_of}
use Rattle.view_match.specs.Indexed.{AreStrictlySortedByKey, lent_entries, lent_entry}
use Rattle.view_match.specs.Pairs.{best_from}
use Rattle.view_match.proofs.Entries.{found-best, found-apart}
use Rattle.view_match.proofs.Paired.{length-keys, length-entries}
use Rattle.view_match.proofs.Rising.{in_order-sorted, rising-in_order}
use Rattle.view_match.proofs.indexed.index.Goals as goal

pub partners-requires : goal.partners-requires
partners-requires c = ap length c.requires.keyed ∙ length-keys (entries_of c.args.old.now) ∙ length-entries c.args.old.now

pub returns-clause-index : goal.returns-clause-index
returns-clause-index c =
    let objects = entries_of c.args.old.now in
    let long = ap length c.requires.keyed ∙ length-keys objects in
    let same = subst (λ es. IsPermutation es (lent_entries c.sort.new.self.items)) c.in_ok-index.ensures (IsPermutation-map lent_entry _ _ c.sort.ensures.permutation) in
    let order = in_order-sorted lent_entry c.sort.new.self.items c.in_ok-sort.ensures.sorted in
    record {
      rising = rising-in_order _ order;
      each = λ k. found-best c.args.keys.now objects long _ same k order ∙ ap (λ keys. best_from None keys objects k 0) c.requires.keyed;
    }

pub returns-clause-found : goal.returns-clause-found
returns-clause-found c = λ apart.
    let objects = entries_of c.args.old.now in
    let long = ap length c.requires.keyed ∙ length-keys objects in
    let same = subst (λ es. IsPermutation es (lent_entries c.sort.new.self.items)) c.in_ok-index.ensures (IsPermutation-map lent_entry _ _ c.sort.ensures.permutation) in
    found-apart c.args.keys.now objects long _ same (subst (λ items. AreStrictlySortedByKey (lent_entries items)) c.as_slice.ensures.value (c.are_apart-apart.ensures apart))
