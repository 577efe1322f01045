use Rattle.std.proofs.Common.{◌∙◌, sym}
use Rattle.flow_several.proofs.Taking.{given, if_ok_by}
use Rattle.flow_several.proofs.threads.ask_all.Goals as goal

pub returns : goal.returns
returns g c =
    given _ _ (g.A.Asking.answers c.args.asking.now) (λ whom answer post. post) (λ v. v.items) c.args.all.items
    c.map_vec.result
    (if_ok_by c.map_vec.result _ _ (λ v same. sym v.ok.0 ∙ same ∙ c.args.all.ok.0) c.map_vec.ensures.len)
    c.map_vec.ensures.each
