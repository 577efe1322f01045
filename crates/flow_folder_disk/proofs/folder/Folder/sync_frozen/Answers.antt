use Rattle.std.proofs.Common.{Bool, IsTrue, subst, sym, ◌∙◌}
use Rattle.flow_folder_disk.specs.Known.{KeepsLost}
use Rattle.flow_folder_disk.proofs.Leaving.{honest_then, leaves_next}
use Rattle.flow_folder_disk.proofs.Removing.{settled_seen, sure_seen}
use Rattle.flow_folder_disk.proofs.Synced.{held_within, lent_then, lost_failed, not_ok, settled_within}
use Rattle.flow_folder_disk.proofs.Synced.{synced_failed, synced_from}
use Rattle.flow_folder_disk.proofs.folder.Folder.sync_frozen.Goals as goal

pub returns-in_err-found-clause-honest : goal.returns-in_err-found-clause-honest
returns-in_err-found-clause-honest g c =
    c.find_to_sync.ensures.honest

pub returns-in_err-found-clause-pending : goal.returns-in_err-found-clause-pending
returns-in_err-found-clause-pending g c =
    c.find_to_sync.ensures.pending

pub returns-in_err-found-clause-names : goal.returns-in_err-found-clause-names
returns-in_err-found-clause-names g c =
    not_ok _ c.from_residual.result c.from_residual.ensures.0

pub returns-in_err-found-clause-lost : goal.returns-in_err-found-clause-lost
returns-in_err-found-clause-lost g c =
    lost_failed c.args.self.now.names_lost c.find_to_sync.new.self.names_lost c.from_residual.result
    c.from_residual.ensures.0 c.find_to_sync.ensures.lost

pub returns-in_err-found-clause-synced : goal.returns-in_err-found-clause-synced
returns-in_err-found-clause-synced g c h =
    synced_failed (g.S.Directory.files c.args.self.now.system c.args.file)
    (g.S.Directory.files c.find_to_sync.new.self.system c.args.file) c.from_residual.result c.from_residual.ensures.0
    (held_within (g.S.Directory.files c.args.self.now.system c.args.file).held
    (g.S.Directory.files c.find_to_sync.new.self.system c.args.file).held (c.find_to_sync.ensures.seen h).held)

pub returns-in_err-found-clause-settled : goal.returns-in_err-found-clause-settled
returns-in_err-found-clause-settled g c h =
    settled_seen (g.S.Directory.files c.args.self.now.system c.args.file)
    (g.S.Directory.files c.find_to_sync.new.self.system c.args.file) (c.requires.settled h)
    (c.find_to_sync.ensures.seen h)

pub returns-in_err-found-clause-lent : goal.returns-in_err-found-clause-lent
returns-in_err-found-clause-lent g c h =
    (c.find_to_sync.ensures.seen h).status.lent

pub returns-in_err-found-clause-leaves : goal.returns-in_err-found-clause-leaves
returns-in_err-found-clause-leaves g c h =
    c.find_to_sync.ensures.leaves h

pub sync_sure-requires-clause-sure : goal.sync_sure-requires-clause-sure
sync_sure-requires-clause-sure g c k =
    let h : IsTrue (g.S.Directory.honest c.args.self.now.system) = sym c.find_to_sync.ensures.honest ∙ k in
    sure_seen (g.S.Directory.files c.args.self.now.system c.args.file)
    (g.S.Directory.files c.find_to_sync.new.self.system c.args.file) (c.requires.settled h).sure
    (c.find_to_sync.ensures.seen h)

pub sync_no_octets-requires-clause-settled : goal.sync_no_octets-requires-clause-settled
sync_no_octets-requires-clause-settled g c k =
    let h : IsTrue (g.S.Directory.honest c.args.self.now.system) = sym c.find_to_sync.ensures.honest ∙ k in
    settled_seen (g.S.Directory.files c.args.self.now.system c.args.file)
    (g.S.Directory.files c.find_to_sync.new.self.system c.args.file) (c.requires.settled h)
    (c.find_to_sync.ensures.seen h)

pub returns-in-Some-clause-honest : goal.returns-in-Some-clause-honest
returns-in-Some-clause-honest g c =
    c.sync_sure.ensures.honest ∙ c.find_to_sync.ensures.honest

pub returns-in-Some-clause-pending : goal.returns-in-Some-clause-pending
returns-in-Some-clause-pending g c =
    c.sync_sure.ensures.pending ∙ c.find_to_sync.ensures.pending

pub returns-in-Some-clause-names : goal.returns-in-Some-clause-names
returns-in-Some-clause-names g c =
    c.sync_sure.ensures.names

pub returns-in-Some-clause-lost : goal.returns-in-Some-clause-lost
returns-in-Some-clause-lost g c =
    subst (λ (b : Bool). KeepsLost b c.sync_sure.new.self.names_lost c.sync_sure.result)
    c.find_to_sync.ensures.lost c.sync_sure.ensures.lost

pub returns-in-Some-clause-synced : goal.returns-in-Some-clause-synced
returns-in-Some-clause-synced g c h =
    let k : IsTrue (g.S.Directory.honest c.find_to_sync.new.self.system) = honest_then
    (g.S.Directory.honest c.args.self.now.system) (g.S.Directory.honest c.find_to_sync.new.self.system)
    c.find_to_sync.ensures.honest h in
    synced_from (g.S.Directory.files c.args.self.now.system c.args.file)
    (g.S.Directory.files c.find_to_sync.new.self.system c.args.file)
    (g.S.Directory.files c.sync_sure.new.self.system c.args.file) c.sync_sure.result
    (c.find_to_sync.ensures.seen h).held (c.sync_sure.ensures.synced k)

pub returns-in-Some-clause-settled : goal.returns-in-Some-clause-settled
returns-in-Some-clause-settled g c h =
    let k : IsTrue (g.S.Directory.honest c.find_to_sync.new.self.system) = honest_then
    (g.S.Directory.honest c.args.self.now.system) (g.S.Directory.honest c.find_to_sync.new.self.system)
    c.find_to_sync.ensures.honest h in
    settled_within (g.S.Directory.files c.find_to_sync.new.self.system c.args.file)
    (g.S.Directory.files c.sync_sure.new.self.system c.args.file)
    (settled_seen (g.S.Directory.files c.args.self.now.system c.args.file)
    (g.S.Directory.files c.find_to_sync.new.self.system c.args.file) (c.requires.settled h)
    (c.find_to_sync.ensures.seen h))
    (c.sync_sure.ensures.synced k).within (c.sync_sure.ensures.reads k) (c.sync_sure.ensures.sure k)

pub returns-in-Some-clause-lent : goal.returns-in-Some-clause-lent
returns-in-Some-clause-lent g c h =
    let k : IsTrue (g.S.Directory.honest c.find_to_sync.new.self.system) = honest_then
    (g.S.Directory.honest c.args.self.now.system) (g.S.Directory.honest c.find_to_sync.new.self.system)
    c.find_to_sync.ensures.honest h in
    lent_then (g.S.Directory.files c.args.self.now.system c.args.file)
    (g.S.Directory.files c.find_to_sync.new.self.system c.args.file)
    (g.S.Directory.files c.sync_sure.new.self.system c.args.file) (c.sync_sure.ensures.lent k)
    (c.find_to_sync.ensures.seen h).status.lent

pub returns-in-Some-clause-leaves : goal.returns-in-Some-clause-leaves
returns-in-Some-clause-leaves g c h =
    let k : IsTrue (g.S.Directory.honest c.find_to_sync.new.self.system) = honest_then
    (g.S.Directory.honest c.args.self.now.system) (g.S.Directory.honest c.find_to_sync.new.self.system)
    c.find_to_sync.ensures.honest h in
    leaves_next g.S.Directory.files g.S.Directory.moment g.S.Directory.left_since c.args.self.now.system
    c.find_to_sync.new.self.system c.sync_sure.new.self.system c.args.file (c.find_to_sync.ensures.leaves h)
    (c.find_to_sync.ensures.seen h).held (c.sync_sure.ensures.leaves k)

pub returns-in_default-clause-honest : goal.returns-in_default-clause-honest
returns-in_default-clause-honest g c =
    c.sync_no_octets.ensures.honest ∙ c.find_to_sync.ensures.honest

pub returns-in_default-clause-pending : goal.returns-in_default-clause-pending
returns-in_default-clause-pending g c =
    c.sync_no_octets.ensures.pending ∙ c.find_to_sync.ensures.pending

pub returns-in_default-clause-names : goal.returns-in_default-clause-names
returns-in_default-clause-names g c =
    c.sync_no_octets.ensures.names

pub returns-in_default-clause-lost : goal.returns-in_default-clause-lost
returns-in_default-clause-lost g c =
    subst (λ (b : Bool). KeepsLost b c.sync_no_octets.new.self.names_lost c.sync_no_octets.result)
    c.find_to_sync.ensures.lost c.sync_no_octets.ensures.lost

pub returns-in_default-clause-synced : goal.returns-in_default-clause-synced
returns-in_default-clause-synced g c h =
    let k : IsTrue (g.S.Directory.honest c.find_to_sync.new.self.system) = honest_then
    (g.S.Directory.honest c.args.self.now.system) (g.S.Directory.honest c.find_to_sync.new.self.system)
    c.find_to_sync.ensures.honest h in
    synced_from (g.S.Directory.files c.args.self.now.system c.args.file)
    (g.S.Directory.files c.find_to_sync.new.self.system c.args.file)
    (g.S.Directory.files c.sync_no_octets.new.self.system c.args.file) c.sync_no_octets.result
    (c.find_to_sync.ensures.seen h).held (c.sync_no_octets.ensures.synced k)

pub returns-in_default-clause-settled : goal.returns-in_default-clause-settled
returns-in_default-clause-settled g c h =
    let k : IsTrue (g.S.Directory.honest c.find_to_sync.new.self.system) = honest_then
    (g.S.Directory.honest c.args.self.now.system) (g.S.Directory.honest c.find_to_sync.new.self.system)
    c.find_to_sync.ensures.honest h in
    c.sync_no_octets.ensures.settled k

pub returns-in_default-clause-lent : goal.returns-in_default-clause-lent
returns-in_default-clause-lent g c h =
    let k : IsTrue (g.S.Directory.honest c.find_to_sync.new.self.system) = honest_then
    (g.S.Directory.honest c.args.self.now.system) (g.S.Directory.honest c.find_to_sync.new.self.system)
    c.find_to_sync.ensures.honest h in
    lent_then (g.S.Directory.files c.args.self.now.system c.args.file)
    (g.S.Directory.files c.find_to_sync.new.self.system c.args.file)
    (g.S.Directory.files c.sync_no_octets.new.self.system c.args.file) (c.sync_no_octets.ensures.lent k)
    (c.find_to_sync.ensures.seen h).status.lent

pub returns-in_default-clause-leaves : goal.returns-in_default-clause-leaves
returns-in_default-clause-leaves g c h =
    let k : IsTrue (g.S.Directory.honest c.find_to_sync.new.self.system) = honest_then
    (g.S.Directory.honest c.args.self.now.system) (g.S.Directory.honest c.find_to_sync.new.self.system)
    c.find_to_sync.ensures.honest h in
    leaves_next g.S.Directory.files g.S.Directory.moment g.S.Directory.left_since c.args.self.now.system
    c.find_to_sync.new.self.system c.sync_no_octets.new.self.system c.args.file (c.find_to_sync.ensures.leaves h)
    (c.find_to_sync.ensures.seen h).held (c.sync_no_octets.ensures.leaves k)
