-- What is carried occurs, and what occurs in a part occurs in the whole.
use Rattle.model.specs.Term.{Term}
use Rattle.model.specs.Carry.{Carries, Occurs}

pub carried_occurs : {t u : Term} → Carries t u → Occurs t u
carried_occurs Carries.here = Occurs.here
carried_occurs (Carries.left p) = Occurs.left (carried_occurs p)
carried_occurs (Carries.right p) = Occurs.right (carried_occurs p)
carried_occurs (Carries.body p) = Occurs.body (carried_occurs p)

pub occurs_after : {t u v : Term} → Occurs t u → Occurs u v → Occurs t v
occurs_after o Occurs.here = o
occurs_after o (Occurs.left p) = Occurs.left (occurs_after o p)
occurs_after o (Occurs.right p) = Occurs.right (occurs_after o p)
occurs_after o (Occurs.body p) = Occurs.body (occurs_after o p)
occurs_after o (Occurs.key p) = Occurs.key (occurs_after o p)
occurs_after o (Occurs.hashed p) = Occurs.hashed (occurs_after o p)
occurs_after o (Occurs.inside i p) = Occurs.inside i (occurs_after o p)
