-- Why the command ended.
use Rattle.flow_commands.specs.declared.archive_refusal.ArchiveRefusal.{ArchiveRefusal}
use Rattle.flow_commands.specs.Archives.{of_query, of_text}
use Rattle.flow_records.specs.declared.refusal.RecordsRefusal.{RecordsRefusal}
use Rattle.flow_records.specs.declared.refusal.RecordsRefusal.TheVariants.{Query, Text}

abbrev pub of_records : RecordsRefusal → ArchiveRefusal
of_records (Query e) = of_query e
of_records (Text e) = of_text e
