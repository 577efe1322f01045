-- How it is printed that no archive was opened.
use Rattle.std.specs.Prelude.{ℕ, List, codes}
use Rattle.flow_refusals.specs.Printed.{read_text}
use Rattle.flow_refusals.specs.Table.{code_text}
use Rattle.flow_refusals.specs.declared.code.RefusalCode.TheVariants as code
use Rattle.flow_headline.specs.declared.error.NotOpened.{NotOpened}
use Rattle.flow_headline.specs.declared.error.NotOpened.TheVariants.{OutOfMemory, NoSuchStop}
use Rattle.flow_headline.specs.declared.error.TotalsRefusal.{TotalsRefusal}
use Rattle.flow_headline.specs.declared.error.TotalsRefusal.TheVariants.{NotOpened as NotOpenedTold, NotAnswered}

-- the name, after the number where there is one
abbrev pub printed : NotOpened → List ℕ
printed OutOfMemory = code_text code.OutOfMemory
printed NoSuchStop = codes "NoSuchStop"

-- why no totals were answered
abbrev pub printed_told : TotalsRefusal → List ℕ
printed_told (NotOpenedTold e) = printed e
printed_told (NotAnswered e) = read_text e
