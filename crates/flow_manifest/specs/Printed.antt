-- How the refusals of a manifest and of an opening are printed: the number, the name, the file and the place.
use Rattle.std.specs.Prelude.{ℕ, List}
use Rattle.flow_refusals.specs.Printed.{damage_text, text_with}
use Rattle.flow_refusals.specs.Table.{code_text}
use Rattle.flow_refusals.specs.declared.code.RefusalCode.{RefusalCode}
use Rattle.flow_refusals.specs.declared.code.RefusalCode.TheVariants as code
use Rattle.flow_manifest.specs.declared.error.ManifestError.{ManifestError}
use Rattle.flow_manifest.specs.declared.error.ManifestError.TheVariants as manifest
use Rattle.flow_manifest.specs.declared.error.OpenError.{OpenError}
use Rattle.flow_manifest.specs.declared.error.OpenError.TheVariants as opening

abbrev pub manifest_text : ManifestError → List ℕ
manifest_text manifest.Format = code_text code.Format
manifest_text manifest.Entries = code_text code.Entries
manifest_text manifest.Cut = code_text code.SlotCut
manifest_text manifest.OutOfMemory = code_text code.OutOfMemory

abbrev pub opening_code : OpenError → RefusalCode
opening_code (opening.Damaged file at) = code.Damaged
opening_code (opening.Format file) = code.Format
opening_code (opening.Entries file) = code.Entries
opening_code (opening.Cut file) = code.SlotCut
opening_code opening.NoArchive = code.NoArchive
opening_code opening.Fault = code.Fault
opening_code opening.OutOfMemory = code.OutOfMemory

abbrev pub opening_text : OpenError → List ℕ
opening_text (opening.Damaged file at) = damage_text file at
opening_text (opening.Format file) = text_with code.Format file
opening_text (opening.Entries file) = text_with code.Entries file
opening_text (opening.Cut file) = text_with code.SlotCut file
opening_text e = code_text (opening_code e)
