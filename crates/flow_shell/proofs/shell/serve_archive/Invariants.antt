use Rattle.flow_shell.specs.Asked.{MayKeep}
use Rattle.flow_shell.proofs.shell.serve_archive.Given as goal

-- what the bell may keep
abbrev pub ghosts-serve_reader : goal.ghosts-serve_reader
ghosts-serve_reader g a = record { asked = MayKeep a.keep a.merge (g.R.Read.remaining a.input.now) }
