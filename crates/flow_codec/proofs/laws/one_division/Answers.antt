use Rattle.flow_codec.proofs.FieldLaws.{fields_fit, fields_unique, extent_unique}
use Rattle.flow_codec.proofs.laws.one_division.Goals as goal

pub returns-clause-fields : goal.returns-clause-fields
returns-clause-fields c = λ layout octets h. fields_fit layout.fields octets h.0 h.1

pub returns-clause-one : goal.returns-clause-one
returns-clause-one c = λ specifiers octets xs ys p q. fields_unique specifiers octets xs ys p q

pub returns-clause-front : goal.returns-clause-front
returns-clause-front c =
    λ layout octets others rest back p q same. extent_unique layout.fields octets rest others back p.0 q.0 p.1 q.1 same
