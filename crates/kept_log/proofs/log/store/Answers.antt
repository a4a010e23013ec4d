use Rattle.kept_log.proofs.Batch.{pad_within, settles}
use Rattle.kept_log.proofs.log.store.Goals as goal

pub behind-requires-clause-pad : goal.behind-requires-clause-pad
behind-requires-clause-pad g c = pad_within (g.D.Device.seen c.args.device.now) (g.D.Device.may_leave c.args.device.now) c.args.tail.end c.args.tail.room c.requires.settled c.args.bytes.now c.args.pad c.requires.bytes

pub returns-clause-settled : goal.returns-clause-settled
returns-clause-settled g c =
    (settles (g.D.Device.seen c.args.device.now) (g.D.Device.may_leave c.args.device.now) c.args.tail.end c.args.tail.room c.requires.settled c.args.bytes.now c.args.pad c.requires.bytes
    (g.D.Device.seen c.put_batch.new.device) (g.D.Device.may_leave c.put_batch.new.device) c.behind.result.end c.behind.result.room
    c.in_ok-put_batch.ensures.written c.in_ok-put_batch.ensures.durable c.requires.pad c.requires.more c.requires.little c.behind.ensures.end c.behind.ensures.room).0

pub returns-clause-records : goal.returns-clause-records
returns-clause-records g c =
    (settles (g.D.Device.seen c.args.device.now) (g.D.Device.may_leave c.args.device.now) c.args.tail.end c.args.tail.room c.requires.settled c.args.bytes.now c.args.pad c.requires.bytes
    (g.D.Device.seen c.put_batch.new.device) (g.D.Device.may_leave c.put_batch.new.device) c.behind.result.end c.behind.result.room
    c.in_ok-put_batch.ensures.written c.in_ok-put_batch.ensures.durable c.requires.pad c.requires.more c.requires.little c.behind.ensures.end c.behind.ensures.room).1
