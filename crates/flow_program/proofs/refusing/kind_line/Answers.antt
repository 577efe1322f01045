use Rattle.clap.specs.declared.error.kind.ErrorKind.TheVariants as kind
use Rattle.flow_program.proofs.Told.{kind_is, other_kind}
use Rattle.flow_program.proofs.refusing.kind_line.Goals as goal

pub returns-in-MissingSubcommand : goal.returns-in-MissingSubcommand
returns-in-MissingSubcommand c = kind_is c.args.kind kind.MissingSubcommand c.in-MissingSubcommand.is

pub returns-in-MissingRequiredArgument : goal.returns-in-MissingRequiredArgument
returns-in-MissingRequiredArgument c = kind_is c.args.kind kind.MissingRequiredArgument c.in-MissingRequiredArgument.is

pub returns-in_default : goal.returns-in_default
returns-in_default c =
    other_kind c.args.kind c.in_default.not-MissingRequiredArgument c.in_default.not-MissingSubcommand
