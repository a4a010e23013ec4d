use Rattle.journal_laws.proofs.TagKeys.{tag_markers, opened_tag_markers, lawful_tag_markers}
use Rattle.journal_laws.proofs.laws.markers_of_tags_are_read_back.Goals as goal

pub returns-clause-formed : goal.returns-clause-formed
returns-clause-formed c = tag_markers

pub returns-clause-opened : goal.returns-clause-opened
returns-clause-opened c = opened_tag_markers

pub returns-clause-lawful : goal.returns-clause-lawful
returns-clause-lawful c = lawful_tag_markers
