use Rattle.std.proofs.Common.{[]}
use Rattle.sigv4_check.specs.Parts.{parts_at}
use Rattle.sigv4_check.specs.Fields.{fields_in}
use Rattle.sigv4_check.proofs.ValueFacts.{line_added, lines_added}
use Rattle.sigv4_check.proofs.canonical.add_lines.Goals as goal

pub loop-name-preserved : goal.loop-name-preserved
loop-name-preserved c =
    line_added c.args.hasher.now c.loop-name.hasher c.add_line.new.hasher (fields_in c.args.buffer.now c.args.cut.now) (parts_at 59 c.args.names.now)
    (parts_at 59 c.loop-name.rest.now) c.in-Some.name.now (parts_at 59 c.in-Some.others.now) c.in-Some.ensures.0 c.loop-name.invariant c.add_line.ensures

pub returns : goal.returns
returns c =
    let fields = fields_in c.args.buffer.now c.args.cut.now in
    lines_added c.args.hasher.now c.add_line-2.new.hasher fields (parts_at 59 c.args.names.now)
    (line_added c.args.hasher.now c.loop-name.hasher c.add_line-2.new.hasher fields (parts_at 59 c.args.names.now)
    (parts_at 59 c.loop-name.rest.now) c.loop-name.rest.now [] c.in_default.ensures c.loop-name.invariant c.add_line-2.ensures)
