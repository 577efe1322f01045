use Rattle.flow_export.proofs.selecting.write_chosen_part.Goals as goal

pub returns-in-Sealed-clause-all : goal.returns-in-Sealed-clause-all
returns-in-Sealed-clause-all g c = rw c.in-Sealed.is c.write_sealed.ensures.all

pub returns-in-Sealed-clause-some : goal.returns-in-Sealed-clause-some
returns-in-Sealed-clause-some g c = rw c.in-Sealed.is c.write_sealed.ensures.some

pub returns-in-Sealed-clause-given : goal.returns-in-Sealed-clause-given
returns-in-Sealed-clause-given g c = rw c.in-Sealed.is c.write_sealed.ensures.given

pub returns-in-Active-clause-all : goal.returns-in-Active-clause-all
returns-in-Active-clause-all g c = rw c.in-Active.is (λ honest. c.write_active.ensures.all)

pub returns-in-Active-clause-some : goal.returns-in-Active-clause-some
returns-in-Active-clause-some g c = rw c.in-Active.is (λ honest. c.write_active.ensures.some)

pub returns-in-Active-clause-given : goal.returns-in-Active-clause-given
returns-in-Active-clause-given g c = rw c.in-Active.is (λ honest. c.write_active.ensures.given)
