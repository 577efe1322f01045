use Rattle.std.proofs.Common.{◌≡◌, true, IsTrue, get_or, inl, ◌∙◌, refl, subst, arith, rules, OnOk}
use Rattle.flow_folder_disk.specs.declared.reported.Table.{Table}
use Rattle.flow_folder_disk.specs.Known.{IsMarked}
use Rattle.flow_folder_disk.specs.Table.{marks_in}
use Rattle.flow_folder_disk.proofs.Ended.{keeps_same, keeps_then, marked_more, left_more, fails_then, fails_none, ok_both}
use Rattle.flow_folder_disk.proofs.disk.FolderDisk.mark_all.Goals as goal

pub loop-file-init : goal.loop-file-init
loop-file-init g c = record {
  honest = refl;
  table = refl;
  cause = fails_none c.args.self.now.failed;
  all = λ h. keeps_same g.S.Directory.files g.S.Directory.moment g.S.Directory.left_since
      c.args.self.now.folder.system c.args.self.now.folder.system refl;
  marked = search rules;
  left = λ h. inl (omega arith);
}

pub loop-file-preserved : goal.loop-file-preserved
loop-file-preserved g c =
    let was = c.loop-file.invariant in
    let files = g.S.Directory.files in
    let first = c.args.self.now in
    let old = c.loop-file.self in
    let new = c.mark-one.new.self in
    let settled : IsTrue (g.S.Directory.honest first.folder.system) → OnOk c.mark-one.result
    ((marks_in first.table (get_or c.args.files.now c.loop-file.file-index 0)).settled ≡ true
    → IsMarked (files new.folder.system (get_or c.args.files.now c.loop-file.file-index 0)))
    = λ h. subst (λ (t : Table). OnOk c.mark-one.result
    ((marks_in t (get_or c.args.files.now c.loop-file.file-index 0)).settled ≡ true
    → IsMarked (files new.folder.system (get_or c.args.files.now c.loop-file.file-index 0)))) was.table
    (c.mark-one.ensures.marked (was.honest ∙ h)) in
    record {
      honest = c.mark-one.ensures.honest ∙ was.honest;
      table = c.mark-one.ensures.table ∙ was.table;
      cause = rw c.and-marked.ensures (fails_then first.failed old.failed new.failed c.loop-file.marked
          c.mark-one.result was.cause c.mark-one.ensures.cause);
      all = λ h. keeps_then g.S.Directory.files g.S.Directory.moment g.S.Directory.left_since
          first.folder.system old.folder.system new.folder.system (was.all h)
          (c.mark-one.ensures.all (was.honest ∙ h));
      marked = λ h. rw c.and-marked.ensures (ok_both c.loop-file.marked c.mark-one.result
          (λ so_far here. marked_more (files old.folder.system) (files new.folder.system)
          (λ n. (marks_in first.table n).settled ≡ true) c.args.files.now c.loop-file.file-index
          c.loop-file-test.true so_far (c.mark-one.ensures.still (was.honest ∙ h)) here)
          (was.marked h) (settled h));
      left = λ h. left_more (marks_in first.table) (files old.folder.system) (files new.folder.system)
          c.args.files.now c.loop-file.file-index first.failed old.failed new.failed c.mark-one.result
          c.loop-file-test.true (c.mark-one.ensures.all (was.honest ∙ h)).linked
          (c.mark-one.ensures.still (was.honest ∙ h)) (settled h) c.mark-one.ensures.cause.later
          c.mark-one.ensures.cause.risen (was.left h);
    }
