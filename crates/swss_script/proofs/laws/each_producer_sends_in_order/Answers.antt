use Rattle.swss_script.proofs.SentOrder.{senders-have_sections, sent-by_sections}
use Rattle.swss_script.proofs.laws.each_producer_sends_in_order.Goals as goal

pub returns : goal.returns
returns c = record { order = sent-by_sections; senders = senders-have_sections }
