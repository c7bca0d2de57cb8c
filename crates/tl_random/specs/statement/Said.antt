-- The line of a request that was drawn.
use Rattle.std.specs.Prelude.{◌≤◌, ◌^◌, ℕ, take, ⊤}
use Rattle.tl_schedule.specs.statement.EventLine as line
use Rattle.tl_random.specs.declared.request.Asked.{Asked}
use Rattle.tl_random.specs.declared.request.Asked.TheVariants.{Get, Put, Part, Arith, Logic, Hint}
use Rattle.tl_random.specs.declared.request.Request.{Request}
use Rattle.tl_random.specs.declared.request.Request.TheVariants.{Load, Store, Acquire, Whole, Release, Access}

-- the access in a line, with the first 2^size of its bytes
abbrev pub said_of_access : ℕ → Asked → line.Asked
said_of_access size Get = line.Get
said_of_access size (Put bytes) = line.Put (take (2 ^ size) bytes)
said_of_access size (Part mask bytes) = line.Part mask (take (2 ^ size) bytes)
said_of_access size (Arith operation bytes) = line.Arith operation (take (2 ^ size) bytes)
said_of_access size (Logic operation bytes) = line.Logic operation (take (2 ^ size) bytes)
said_of_access size (Hint intent) = line.Hint intent

-- the content of the line of a request to a client
abbrev pub said_of : ℕ → Request → line.Said
said_of client (Load size address) = line.Load client size address
said_of client (Store size address value) = line.Store client size address value
said_of client (Acquire block grow) = line.Acquire client block grow
said_of client (Whole block bytes) = line.Whole client block bytes
said_of client (Release block prune) = line.Release client block prune
said_of client (Access size address asked) = line.Access client size address (said_of_access size asked)

-- a Load or Store has at most 8 bytes, an access at most a block
abbrev pub HasSize : Request → Type 0
HasSize (Load size address) = size ≤ 3
HasSize (Store size address value) = size ≤ 3
HasSize (Access size address asked) = size ≤ 6
HasSize _ = ⊤
