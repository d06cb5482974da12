-- What an error of a keeper is to who opens a store, and to who writes.
use Rattle.an_keep.specs.declared.keeper.KeepError.{KeepError}
use Rattle.an_keep.specs.declared.keeper.KeepError.TheVariants as keep
use Rattle.an_shelf.specs.declared.error.OpenError.{OpenError}
use Rattle.an_shelf.specs.declared.error.OpenError.TheVariants as opening
use Rattle.an_shelf.specs.declared.error.WriteError.{WriteError}
use Rattle.an_shelf.specs.declared.error.WriteError.TheVariants as writing

abbrev pub open_error : KeepError → OpenError
open_error keep.Failed = opening.Keeper
open_error keep.Memory = opening.Memory

abbrev pub write_error : KeepError → WriteError
write_error keep.Failed = writing.Keeper
write_error keep.Memory = writing.Memory
