pub mod KeyPolicy
