use Rattle.std.proofs.Common.{◌≡◌, [], ◌∷◌, ◌++◌, OnOk, codes, subst, ◌∙◌}
use Rattle.std.specs.Fmt.{decimal}
use Rattle.sai_record.specs.Line.{id_word}
use Rattle.sai_record.proofs.Written.{last-word, three-words}
use Rattle.sai_record.proofs.line.write_group_member.Goals as goal

pub returns : goal.returns
returns c =
    let out = c.args.out.now.items in
    let one = c.extend_from_slice.new.self.items in
    let two = c.write_id.new.out.items in
    let three = c.write_id-2.new.out.items in
    let kind = codes "GROUP_MEMBER" in
    let group = id_word c.args.group in
    let hop = id_word c.args.next_hop in
    let last = subst (λ n. OnOk c.write_value.result (c.write_value.new.out.items ≡ three ++ 32 ∷ decimal n)) (c.from.ensures ∙ c.get.ensures.number) c.write_value.ensures in
    last-word c.write_value.result out three c.write_value.new.out.items (kind ∷ group ∷ hop ∷ []) (decimal c.args.weight)
    (three-words out one two three kind group hop c.in_ok-extend_from_slice.ensures.items c.in_ok-write_id.ensures c.in_ok-write_id-2.ensures) last
