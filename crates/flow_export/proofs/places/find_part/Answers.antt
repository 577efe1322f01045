use Rattle.flow_export.proofs.places.find_part.Goals as goal

pub returns-in-Sealed-clause-given : goal.returns-in-Sealed-clause-given
returns-in-Sealed-clause-given g c = rw c.in-Sealed.is c.find_sealed.ensures.given

pub returns-in-Active-clause-given : goal.returns-in-Active-clause-given
returns-in-Active-clause-given g c = rw c.in-Active.is (λ honest. c.find_active.ensures.given)
