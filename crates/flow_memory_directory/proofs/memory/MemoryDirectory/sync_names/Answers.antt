use Rattle.std.proofs.Common.{◌≡◌, refl, ap, Err}
use Rattle.flow_memory_directory.specs.Bound.{reading}
use Rattle.flow_memory_directory.specs.Memory.{deeds_of}
use Rattle.flow_memory_directory.proofs.AllFiles.{all_rule, all_sound, enters_sound, misses_sound, entering_none, missing_none}
use Rattle.flow_memory_directory.proofs.Names.{entering, missing}
use Rattle.flow_memory_directory.specs.Nodes.{NodeEnters, NodeMisses}
use Rattle.flow_memory_directory.specs.declared.error.MemoryError.{MemoryError}
use Rattle.flow_memory_directory.specs.declared.error.MemoryError.TheVariants.{Refused}
use Rattle.std.proofs.Common.{Ok}
use Rattle.flow_directory.specs.Calls.{Entering}
use Rattle.flow_memory_directory.proofs.memory.MemoryDirectory.sync_names.Goals as goal

pub invariant_of-self : goal.invariant_of-self
invariant_of-self c = record {
  sound = all_sound NodeMisses c.args.self.now.nodes.items _ c.miss_all.ensures (deeds_of c.args.self.now) misses_sound c.args.self.now.sound;
}

pub invariant_of-self-2 : goal.invariant_of-self-2
invariant_of-self-2 c = record {
  sound = all_sound NodeEnters c.args.self.now.nodes.items _ c.enter_all.ensures (deeds_of c.args.self.now) enters_sound c.args.self.now.sound;
}

pub returns-then-strikes-clause-names : goal.returns-then-strikes-clause-names
returns-then-strikes-clause-names c n =
    all_rule NodeMisses c.args.self.now.nodes.items c.miss_all.new.nodes.items c.miss_all.ensures
    (λ was now. Entering {T = Unit {0}} {E = MemoryError} was now (Err Refused)) (deeds_of c.args.self.now)
    (λ h was to misses. missing h h was to misses Refused) (λ h. missing_none Refused h) n

pub returns-then-strikes-clause-held : goal.returns-then-strikes-clause-held
returns-then-strikes-clause-held c n =
    all_rule NodeMisses c.args.self.now.nodes.items c.miss_all.new.nodes.items c.miss_all.ensures
    (λ was now. now.held ≡ was.held) (deeds_of c.args.self.now)
    (λ h was to misses. ap (reading h) misses.octets_are) (λ h. refl) n

pub returns-clause-names : goal.returns-clause-names
returns-clause-names c n =
    all_rule NodeEnters c.args.self.now.nodes.items c.enter_all.new.nodes.items c.enter_all.ensures
    (λ was now. Entering {T = Unit {0}} {E = MemoryError} was now (Ok tt)) (deeds_of c.args.self.now)
    (λ h was to enters. entering h h was to enters) (λ h. entering_none h) n

pub returns-clause-held : goal.returns-clause-held
returns-clause-held c n =
    all_rule NodeEnters c.args.self.now.nodes.items c.enter_all.new.nodes.items c.enter_all.ensures
    (λ was now. now.held ≡ was.held) (deeds_of c.args.self.now)
    (λ h was to enters. ap (reading h) enters.octets_are) (λ h. refl) n
