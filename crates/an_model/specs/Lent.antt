-- What a tree lends of a body, as the body.
use Rattle.an_model.specs.Bodies.{Body, plain, html, iri, unread}
use Rattle.an_model.specs.declared.body.BodyPart.{BodyPart}
use Rattle.an_model.specs.declared.body.BodyPart.TheVariants as part

-- the body that owns what is lent
abbrev pub owned : BodyPart → Body
owned (part.Plain text) = plain text.now
owned (part.Html text) = html text.now
owned (part.Iri text) = iri text.now
owned part.Unread = unread
