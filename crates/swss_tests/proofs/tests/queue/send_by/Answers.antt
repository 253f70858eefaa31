use Rattle.intake_queue.proofs.PortDeletions.{port_deletion-read}
use Rattle.swss_tests.proofs.tests.queue.send_by.Goals as goal

pub send-requires-clause-read : goal.send-requires-clause-read
send-requires-clause-read g c = port_deletion-read c.args.number c.requires.port
