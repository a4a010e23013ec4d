use Rattle.kms_program.proofs.exporting.export_over.Goals as goal

pub returns-clause-exports : goal.returns-clause-exports
returns-clause-exports g c =
    let held = c.serve_quietly-link.ensures.held in
    record {
      end = c.serve_quietly-link.result.1;
      left = c.serve_quietly-link.result.2;
      quiet = held.0;
      beneath = g.L.Link.shows c.serve_quietly-link.result.0.now;
      held = held.1;
      lies = held.2;
      ends = c.end_export-status.ensures;
    }
