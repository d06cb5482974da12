-- What the texts of the statements stand for.
use Rattle.std.proofs.Common.{◌≡◌, [], ◌∷◌, codes, false, refl}
use Rattle.sqlite_schema.specs.declared.command.Command.TheVariants.{Select, CreateTable, Nothing}
use Rattle.sqlite_tied.specs.Compute.{everything}
use Rattle.sqlite.specs.Listing.{understood, reads_listing}
use Rattle.sqlite.specs.Given.{IsPlain}
use Rattle.sqlite.proofs.Callers.{command_of}
use Rattle.an_sqlite.specs.Statements.{first_text, put_text, take_text, first_query}
use Rattle.an_sqlite.specs.Table.{create_text, no_schema, cell_schema}

pub create_is : command_of (understood no_schema create_text) ≡ CreateTable
unfolding understood everything
create_is = refl

pub create_again_is : command_of (understood cell_schema create_text) ≡ Nothing
unfolding understood everything
create_again_is = refl

pub first_is : (command_of (understood cell_schema first_text)
    ≡ Select (record { lets = []; body = first_query })
    (codes "tab" ∷ codes "key" ∷ codes "val" ∷ []))
    × (reads_listing cell_schema first_text ≡ false)
unfolding understood everything
first_is = (refl, refl)

pub first_plain : IsPlain (understood cell_schema first_text)
unfolding understood everything
first_plain = (refl, refl)

pub put_plain : IsPlain (understood cell_schema put_text)
unfolding understood everything
put_plain = (refl, refl)

pub take_plain : IsPlain (understood cell_schema take_text)
unfolding understood everything
take_plain = (refl, refl)
