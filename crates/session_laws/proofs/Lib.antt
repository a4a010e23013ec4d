mod OneCut
mod SessionCalls
mod GrowingRuns
mod Makers
mod Workers
mod Orders
