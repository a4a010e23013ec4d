use Rattle.kept_file.proofs.Refused.{no_write}
use Rattle.kept_file.proofs.device.FileDeviceDevice.write_at.Goals as goal

pub returns-then-self-gt0-clause-crash : goal.returns-then-self-gt0-clause-crash
returns-then-self-gt0-clause-crash g c = no_write g.M.Reading.is_mixing c.args.self.now.calls c.fail.new.self.calls c.fail.ensures.0 c.args.at c.args.bytes.now
