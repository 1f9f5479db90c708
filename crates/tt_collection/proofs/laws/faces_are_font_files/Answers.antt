use Rattle.tt_collection.proofs.LawProofs.{begins_as_face, has_tables, places_tables}
use Rattle.tt_collection.proofs.laws.faces_are_font_files.Goals as goal

pub returns : goal.returns
returns c = record { directory = begins_as_face; places = places_tables; tables = has_tables }
