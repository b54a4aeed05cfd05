-- Errors of the operating system, and what becomes of them.
use Rattle.std.specs.Prelude.{◌≡◌, ◌⊎◌, Option, None, Some, Result, Ok, Err, IfSome, IsErrOf, OnOk}
use Rattle.disk.specs.Words.{Error, ErrorKind, InvalidInput, NotFound, Unsupported, error_kind}

-- the kind of the error, if this is one
abbrev pub error_of : {T : Type 0} → Result T Error → Option ErrorKind
error_of (Ok value) = None
error_of (Err error) = Some (error_kind error)

-- no error at all
abbrev pub IsNoError : ErrorKind → Type 0
IsNoError kind = ⊥

-- nothing has this name: ENOENT
abbrev pub IsAbsent : ErrorKind → Type 0
IsAbsent kind = kind ≡ NotFound

-- the file system does not support the call: EINVAL, ENOSYS or EOPNOTSUPP
abbrev pub IsUnsupported : ErrorKind → Type 0
IsUnsupported kind = (kind ≡ InvalidInput) ⊎ (kind ≡ Unsupported)

-- How a call of a disk passes on what the system answered last, where `old` and `new` are the error of the last answer
-- before and after the call. After `Ok` it was no error, or one that the call ignores. Memory has run out only before the
-- system was asked. So any other error is a failure of the disk.
pub record PassesOn {T E : Type 0} (memory : E) (Ignored : ErrorKind → Type 0) (old new : Option ErrorKind) (result : Result T E) : Type 0 where
  pub ok : OnOk result (IfSome new Ignored)
  pub unasked : IsErrOf result memory → new ≡ old
